-- No request is sent twice.
use Rattle.std.proofs.Common.{◌≡◌, ℕ, ◌==◌, inl, inr, ⊎_elim, Bool, false, ◌||◌, List, [], ◌∷◌, ◌++◌, length, take, refl, sym, ◌∙◌, ap, subst, append-nil, append_assoc, arith}
use Rattle.std.specs.List.{flat_map, list_any}
use Rattle.std.proofs.lemmas.Bool.{or_parts, or_from}
use Rattle.std.proofs.lemmas.Grind.{flat_map-append}
use Rattle.std.proofs.lemmas.List.{take-take}
use Rattle.std.proofs.lemmas.List.Folds.{list_any-append}
use Rattle.tc_fop.specs.declared.signals.Indication.{Indication}
use Rattle.tc_fop.specs.declared.signals.Indication.TheVariants as indication
use Rattle.tc_fop.specs.Machine.{Out}
use Rattle.tc_fop.specs.Requests.{waiting_requests, leaves, KeepsOrder}
use Rattle.tc_fop.specs.Moves.{transmitted_by, transmitted_in}
use Rattle.tc_world.specs.Sublist.{IsSublist, IsSublist-same}
use Rattle.tc_world.specs.Logs.{Log}
use Rattle.tc_world.specs.Abstraction.{Bare, session_with}
use Rattle.tc_world.specs.World.{all_sent, is_known}
use Rattle.tc_world.specs.Window.{Distinct, IsPrefixed, ArePrefixed}
use Rattle.tc_world.specs.Kept.{IsInWindow}
use Rattle.tc_world.proofs.Lists.{sublist_front, sublist_both, sublist_of_front, sublist_take}

-- ---- no number twice

-- what is not among the items is not among those that are left
none_sub : (test : ℕ → Bool) (xs ys : List ℕ) → IsSublist xs ys → list_any test ys ≡ false → list_any test xs ≡ false
none_sub test xs [] h e = ap (list_any test) h
none_sub test xs (y ∷ ys) h e =
    let parts = or_parts (test y) (list_any test ys) e in
    ⊎_elim
    (λ (out : IsSublist xs ys). none_sub test xs ys out parts.1)
    (λ (on : (rest : List ℕ) × (xs ≡ y ∷ rest) × IsSublist rest ys).
    ap (list_any test) on.1 ∙ or_from (test y) (list_any test on.0) parts.0 (none_sub test on.0 ys on.2 parts.1))
    h

-- items left out of a list in which no number stands twice
pub distinct_sub : (xs ys : List ℕ) → IsSublist xs ys → Distinct ys → Distinct xs
distinct_sub xs [] h d = subst Distinct (sym h) tt
distinct_sub xs (y ∷ ys) h d = ⊎_elim
    (λ (out : IsSublist xs ys). distinct_sub xs ys out d.1)
    (λ (on : (rest : List ℕ) × (xs ≡ y ∷ rest) × IsSublist rest ys).
    subst Distinct (sym on.1) (none_sub (λ (n : ℕ). n == y) on.0 ys on.2 d.0, distinct_sub on.0 ys on.2 d.1))
    h

-- those in front
pub distinct_front : (xs ys : List ℕ) → Distinct (xs ++ ys) → Distinct xs
distinct_front xs ys d = distinct_sub xs (xs ++ ys) (sublist_of_front xs ys) d

-- a test for equal numbers, from the other side
other_way : (a b : ℕ) → (a == b) ≡ false → (b == a) ≡ false
other_way a b e = grind arith

-- a number that is not there is put behind
pub distinct_push : (xs : List ℕ) (y : ℕ) → list_any (λ (n : ℕ). n == y) xs ≡ false → Distinct xs
    → Distinct (xs ++ y ∷ [])
distinct_push [] y e d = (refl, tt)
distinct_push (x ∷ xs) y e d =
    let parts = or_parts (x == y) (list_any (λ (n : ℕ). n == y) xs) e in (
      list_any-append (λ (n : ℕ). n == x) xs (y ∷ [])
          ∙ or_from (list_any (λ (n : ℕ). n == x) xs) ((y == x) || false) d.0
          (or_from (y == x) false (other_way x y parts.0) refl),
      distinct_push xs y parts.1 d.1,
    )

-- ---- the requests of a world

-- those of the earlier sessions, and then those of the newest
pub all_sent_is : (w : Bare) → all_sent w ≡ flat_map (λ (log : Log). log.sent) w.past ++ w.newest.sent
all_sent_is w =
    let earlier = flat_map (λ (log : Log). log.sent) w.past in
    flat_map-append (λ (log : Log). log.sent) w.past (w.newest ∷ [])
    ∙ ap (λ (l : List ℕ). earlier ++ l) (append-nil w.newest.sent)

-- a transmitted request left the Wait_Queue
transmitted_leave : (told : List Indication) → IsSublist (flat_map transmitted_by told) (flat_map leaves told)
transmitted_leave [] = refl
transmitted_leave (indication.Sent n ∷ told) = inr (flat_map transmitted_by told, refl, transmitted_leave told)
transmitted_leave (indication.Confirmed n ∷ told) = transmitted_leave told
transmitted_leave (indication.GivenBack n ∷ told) = inl (transmitted_leave told)
transmitted_leave (indication.InDoubt n ∷ told) = transmitted_leave told
transmitted_leave (indication.Alert kind ∷ told) = transmitted_leave told
transmitted_leave (indication.Started ∷ told) = transmitted_leave told

-- a call sends no request twice, and none that was sent
pub carries_distinct : (w v : Bare) (out : Out) (offered : List ℕ) → v.past ≡ w.past
    → v.newest.sent ≡ w.newest.sent ++ transmitted_in out
    → KeepsOrder offered w.fop v.fop out → Distinct (all_sent w ++ waiting_requests w.fop ++ offered)
    → Distinct (all_sent v ++ waiting_requests v.fop)
carries_distinct w v out offered past sent order distinct =
    let known = all_sent w in
    let fresh = transmitted_in out in
    let left = flat_map leaves out.indications in
    let waits = waiting_requests v.fop in
    let earlier = flat_map (λ (log : Log). log.sent) w.past in
    let grown : all_sent v ≡ known ++ fresh =
    all_sent_is v
    ∙ ap (λ (l : List Log). flat_map (λ (log : Log). log.sent) l ++ v.newest.sent) past
    ∙ ap (λ (l : List ℕ). earlier ++ l) sent
    ∙ sym (append_assoc earlier w.newest.sent fresh)
    ∙ ap (λ (l : List ℕ). l ++ fresh) (sym (all_sent_is w)) in
    let whole : all_sent v ++ waits ≡ known ++ (fresh ++ waits) =
    ap (λ (l : List ℕ). l ++ waits) grown ∙ append_assoc known fresh waits in
    let before : Distinct (known ++ (left ++ waits)) =
    subst Distinct (append_assoc known (waiting_requests w.fop) offered ∙ ap (λ (l : List ℕ). known ++ l) order)
    distinct in
    let fewer : IsSublist (fresh ++ waits) (left ++ waits) =
    sublist_both fresh left waits waits (transmitted_leave out.indications) (IsSublist-same waits) in
    subst Distinct (sym whole)
    (distinct_sub (known ++ (fresh ++ waits)) (known ++ (left ++ waits))
    (sublist_front known (fresh ++ waits) (left ++ waits) fewer) before)

-- an offered request that is not known
pub offered_distinct : (w : Bare) (request : ℕ) → is_known request w ≡ false
    → Distinct (all_sent w ++ waiting_requests w.fop)
    → Distinct (all_sent w ++ waiting_requests w.fop ++ request ∷ [])
offered_distinct w request unknown distinct =
    distinct_push (all_sent w ++ waiting_requests w.fop) request unknown distinct

-- an initiation sends nothing
pub begins_distinct : (w v : Bare) → v.past ≡ w.past ++ w.newest ∷ [] → v.newest.sent ≡ [] → waiting_requests v.fop ≡ []
    → Distinct (all_sent w ++ waiting_requests w.fop) → Distinct (all_sent v ++ waiting_requests v.fop)
begins_distinct w v past sent none distinct =
    let known = all_sent w in
    let waits = waiting_requests w.fop in
    let same : all_sent v ≡ known =
    all_sent_is v
    ∙ ap (λ (l : List Log). flat_map (λ (log : Log). log.sent) l ++ v.newest.sent) past
    ∙ ap (λ (l : List ℕ). known ++ l) sent
    ∙ append-nil known in
    let whole : known ≡ all_sent v ++ waiting_requests v.fop =
    sym (ap (λ (l : List ℕ). all_sent v ++ l) none ∙ append-nil (all_sent v) ∙ same) in
    subst Distinct whole (distinct_front known waits distinct)

-- ---- the claims of a session

-- in a session whose window is kept, what was confirmed was accepted and what was accepted was sent, in order
pub prefixed : (log : Log) (ns rs : List ℕ) → IsInWindow 255 (session_with log ns rs) → IsPrefixed log
prefixed log ns rs window = record {
  accepted = window.accepted;
  confirmed =
      window.confirmed
      ∙ sym (ap (λ (l : List ℕ). take (length log.confirmed) l) window.accepted
      ∙ take-take (length log.confirmed) (length log.accepted) log.sent window.confirmed_few);
}

-- what was accepted was sent, session by session
accepted_sent : (logs : List Log) → ArePrefixed logs
    → IsSublist (flat_map (λ (log : Log). log.accepted) logs) (flat_map (λ (log : Log). log.sent) logs)
accepted_sent [] prefixes = refl
accepted_sent (log ∷ logs) prefixes =
    let mine : IsSublist log.accepted log.sent =
    subst (λ (l : List ℕ). IsSublist l log.sent) (sym prefixes.0.accepted)
    (sublist_take (length log.accepted) log.sent) in
    let accepted = flat_map (λ (other : Log). other.accepted) logs in
    let sent = flat_map (λ (other : Log). other.sent) logs in
    sublist_both log.accepted log.sent accepted sent mine (accepted_sent logs prefixes.1)

-- where no request was sent twice none was accepted twice
pub accepted_distinct : (logs : List Log) → ArePrefixed logs → Distinct (flat_map (λ (log : Log). log.sent) logs)
    → Distinct (flat_map (λ (log : Log). log.accepted) logs)
accepted_distinct logs prefixes distinct =
    distinct_sub (flat_map (λ (log : Log). log.accepted) logs) (flat_map (λ (log : Log). log.sent) logs)
    (accepted_sent logs prefixes) distinct

-- one more session behind
pub prefixed_push : (logs : List Log) (log : Log) → ArePrefixed logs → IsPrefixed log → ArePrefixed (logs ++ log ∷ [])
prefixed_push [] log prefixes mine = (mine, tt)
prefixed_push (other ∷ logs) log prefixes mine = (prefixes.0, prefixed_push logs log prefixes.1 mine)
