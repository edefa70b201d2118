-- What the window keeps while every start was good.
use Rattle.std.specs.Prelude.{◌≡◌, ◌⊎◌, ℕ, ◌==◌, false, List, [], ◌∷◌, ◌++◌, length, take}
use Rattle.std.specs.List.{flat_map, list_any}
use Rattle.tc_world.specs.Logs.{Log}
use Rattle.tc_world.specs.Session.{SessionRun, nothing_yet}
use Rattle.tc_world.specs.Abstraction.{Bare, session_of}
use Rattle.tc_world.specs.World.{Whole, all_sent}

-- no number stands twice
abbrev pub Distinct : List ℕ → Type 0
Distinct [] = Unit {0}
Distinct (first ∷ others) = (list_any (λ (n : ℕ). n == first) others ≡ false) × Distinct others

-- xs is the first of ys
abbrev pub IsPrefix : List ℕ → List ℕ → Type 0
IsPrefix xs ys = xs ≡ take (length xs) ys

-- accepted is a prefix of sent, and confirmed of accepted
pub record IsPrefixed (log : Log) : Type 0 where
  pub accepted : IsPrefix log.accepted log.sent
  pub confirmed : IsPrefix log.confirmed log.accepted

abbrev pub ArePrefixed : List Log → Type 0
ArePrefixed [] = Unit {0}
ArePrefixed (log ∷ logs) = IsPrefixed log × ArePrefixed logs

-- the requests that were accepted in some session
abbrev pub all_accepted : {U D : Type 0} → Whole U D → List ℕ
all_accepted w = flat_map (λ (log : Log). log.accepted) (w.past ++ w.newest ∷ [])

-- the requests that were confirmed in some session
abbrev pub all_confirmed : {U D : Type 0} → Whole U D → List ℕ
all_confirmed w = flat_map (λ (log : Log). log.confirmed) (w.past ++ w.newest ∷ [])

-- In each session what was confirmed was accepted, in order, and what was accepted was sent, in order; over all
-- sessions no request was sent twice or accepted twice.
pub record IsClaimed {U D : Type 0} (w : Whole U D) : Type 0 where
  pub prefixes : ArePrefixed (w.past ++ w.newest ∷ [])
  pub sent_once : Distinct (all_sent w)
  pub accepted_once : Distinct (all_accepted w)

-- An event is a run of the session that is on, or another session begins.
abbrev pub Follows : Bare → Bare → Type 0
Follows old new =
    ((new.past ≡ old.past) × SessionRun 255 (session_of old) (session_of new))
    ⊎ ((new.past ≡ old.past ++ old.newest ∷ []) × SessionRun 255 nothing_yet (session_of new))

-- events, one after the other, each to the next of these worlds
abbrev pub FollowsThrough : Bare → List Bare → Bare → Type 0
FollowsThrough old [] new = new ≡ old
FollowsThrough old (next ∷ others) new = Follows old next × FollowsThrough next others new
