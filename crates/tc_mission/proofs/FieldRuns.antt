-- What happens far away and in the air leaves the ground as it was, and what a run in the field comes to.
use Rattle.std.proofs.Common.{◌≡◌, ◌⊎◌, ℕ, true, false, inl, inr, ⊎_elim, List, [], ◌∷◌, ◌++◌, map, refl, sym, ◌∙◌, ap, subst}
use Rattle.std.proofs.lemmas.Bool.{false≢true}
use Rattle.std.proofs.lemmas.List.{map-append}
use Rattle.tc_types.specs.declared.link.directives.Directive.{Directive}
use Rattle.tc_farm.specs.Farm.{IsFarm}
use Rattle.tc_fop.specs.Standing.{IsFop}
use Rattle.tc_world.specs.declared.events.Event.{Event}
use Rattle.tc_world.specs.declared.events.Event.TheVariants as event
use Rattle.tc_world.specs.declared.events.LinkIndication.{LinkIndication}
use Rattle.tc_world.specs.Links.{lossy}
use Rattle.tc_world.specs.Logs.{Log}
use Rattle.tc_world.specs.Abstraction.{Bare}
use Rattle.tc_world.specs.Window.{Distinct, IsPrefix, ArePrefixed, IsClaimed}
use Rattle.tc_mission.specs.Mission.{Relay, relayed, Mission, MissionStep, IsMission, from_ground, IsGroundOf, is_far, StepOver, AreTaken, IsTakenOnce, FieldMove, FieldRun, IsTakenThrough}
use Rattle.tc_world.specs.World.{Happens}
use Rattle.tc_mission.proofs.Missions.{sent_same}

-- ---- far away and in the air

far_keeps : (w : Bare) (m n : Mission) → n.fop ≡ m.fop → n.up.queue ≡ m.up.queue → n.past ≡ m.past → from_ground n.newest ≡ from_ground m.newest → n.vc ≡ m.vc
    → IsGroundOf w m → IsGroundOf w n
far_keeps w m n fop queue past newest vc g = record {
  fop = fop ∙ g.fop;
  queue = queue ∙ g.queue;
  past = ap (λ (logs : List Log). map from_ground logs) past ∙ g.past;
  newest = newest ∙ g.newest;
  vc = vc ∙ g.vc;
}

-- what leaves the FOP, the sessions and the queue
far_rest : (w : Bare) (m n x : Mission) → n ≡ x → x.fop ≡ m.fop → x.past ≡ m.past → from_ground x.newest ≡ from_ground m.newest → x.vc ≡ m.vc
    → n.up.queue ≡ m.up.queue → IsGroundOf w m → IsGroundOf w n
far_rest w m n x whole fop past newest vc queue g =
    far_keeps w m n (ap (λ (y : Mission). y.fop) whole ∙ fop) queue (ap (λ (y : Mission). y.past) whole ∙ past)
    (ap (λ (y : Mission). from_ground y.newest) whole ∙ newest) (ap (λ (y : Mission). y.vc) whole ∙ vc) g

-- the desk stays the ground
pub far_stays : (given : Event) (w : Bare) (m n : Mission) (answer : List LinkIndication) → is_far given ≡ true → Happens relayed lossy given m n answer
    → IsGroundOf w m → IsGroundOf w n
far_stays (event.Offer request body) w m n answer far h g = absurd (false≢true far)
far_stays (event.Directive given) w m n answer far h g = absurd (false≢true far)
far_stays event.Tick w m n answer far h g = absurd (false≢true far)
far_stays (event.Uplink room) w m n answer far (inl (nothing, h)) g =
    far_rest w m n _ h.same.rest refl refl refl refl (ap (λ (r : Relay). r.queue) h.same.up) g
far_stays (event.Uplink room) w m n answer far (inr h) g = far_rest w m n _ h.whole refl refl refl refl h.taken.2 g
far_stays (event.LoseUp place) w m n answer far h g = far_rest w m n _ h.whole refl refl refl refl h.lost.1 g
far_stays event.Release w m n answer far (whole, answered) g =
    far_rest w m n _ whole refl refl refl refl (ap (λ (y : Mission). y.up.queue) whole) g
far_stays event.Clcw w m n answer far (clcw, told, h) g =
    far_rest w m n _ h.whole refl refl refl refl (ap (λ (y : Mission). y.up.queue) h.whole) g
far_stays (event.Put telemetry) w m n answer far h g =
    far_rest w m n _ h.whole refl refl refl refl (ap (λ (y : Mission). y.up.queue) h.whole) g
far_stays event.Downlink w m n answer far h g = absurd (false≢true far)
far_stays (event.LoseDown place) w m n answer far h g =
    far_rest w m n _ h.whole refl refl refl refl (ap (λ (y : Mission). y.up.queue) h.whole) g
far_stays event.Transmit w m n answer far h g = absurd (false≢true far)
far_stays (event.Hear item) w m n answer far h g = absurd (false≢true far)

-- ---- the headline

-- the first of two lists, and what is behind it
abbrev first_or : Log → List Log → Log
first_or other [] = other
first_or other (log ∷ logs) = log

abbrev behind : List Log → List Log
behind [] = []
behind (log ∷ logs) = logs

taken_all : (desks fars : List Log) → map from_ground fars ≡ map from_ground desks → ArePrefixed fars → AreTaken desks fars
taken_all [] [] same prefixes = tt
taken_all [] (far ∷ others) same prefixes = cc
taken_all (desk ∷ desks) [] same prefixes = cc
taken_all (desk ∷ desks) (far ∷ others) same prefixes =
    let log : from_ground far ≡ from_ground desk = ap (λ (l : List Log). first_or far l) same in (
      subst (λ (l : List ℕ). IsPrefix l far.accepted) (ap (λ (x : Log). x.confirmed) log) prefixes.0.confirmed,
      subst (λ (l : List ℕ). IsPrefix far.accepted l) (ap (λ (x : Log). x.sent) log) prefixes.0.accepted,
      taken_all desks others (ap (λ (l : List Log). behind l) same) prefixes.1,
    )

taken_once : (w : Bare) (m : Mission) → IsGroundOf w m → IsClaimed m → IsTakenOnce w m
taken_once w m g claims = record {
  taken = taken_all (w.past ++ w.newest ∷ []) (m.past ++ m.newest ∷ [])
      (map-append from_ground m.past (m.newest ∷ [])
      ∙ ap (λ (logs : List Log). logs ++ from_ground m.newest ∷ []) g.past
      ∙ ap (λ (log : Log). map from_ground w.past ++ log ∷ []) g.newest
      ∙ sym (map-append from_ground w.past (w.newest ∷ [])))
      claims.prefixes;
  accepted_once = claims.accepted_once;
  sent_once = subst Distinct (sent_same w m g) claims.sent_once;
}

-- what the desk's event is to the mission is a step of it, or nothing
step_of : (given : Event) (m n : Mission) (answer : List LinkIndication) → StepOver given m n answer → (n ≡ m) ⊎ MissionStep m n answer
step_of (event.Offer request body) m n answer h = inr (inl (event.Offer request body, h))
step_of (event.Directive given) m n answer h = inr (inl (event.Directive given, h))
step_of event.Tick m n answer h = inr (inl (event.Tick, h))
step_of (event.Uplink free_buffer) m n answer h = absurd h
step_of (event.LoseUp place) m n answer h = absurd h
step_of event.Release m n answer h = absurd h
step_of event.Clcw m n answer h = absurd h
step_of (event.Put telemetry) m n answer h = absurd h
step_of event.Downlink m n answer h = absurd h
step_of (event.LoseDown place) m n answer h = absurd h
step_of event.Transmit m n answer (inl still) = inl still
step_of event.Transmit m n answer (inr h) = inr (inr h)
step_of (event.Hear item) m n answer h = inr (inl (event.Downlink, h))

-- what a move of a mission keeps
abbrev pub Keeping : Type 0
Keeping = (m n : Mission) (answer : List LinkIndication) → IsMission m → IsFop n.fop → IsFarm n.farm → MissionStep m n answer → IsMission n

moved : Keeping → (w v : Bare) (m n : Mission) → IsGroundOf w m → IsMission m → IsFop n.fop → IsFarm n.farm → FieldMove w m v n → IsGroundOf v n × IsMission n
moved keeps w v m n g h fop farm (inl (given, answer, air, happens, same)) = (
  same.ground,
  ⊎_elim
      (λ (still : n ≡ m). subst (λ (x : Mission). IsMission x) (sym still) h)
      (λ (step : MissionStep m n answer). keeps m n answer h fop farm step)
      (step_of given m n answer same.step),
)
moved keeps w v m n g h fop farm (inr (stands, given, answer, far, happens)) = (
  subst (λ (x : Bare). IsGroundOf x n) (sym stands) (far_stays given w m n answer far happens g),
  keeps m n answer h fop farm (inl (given, happens)),
)

pub field_run : Keeping → ((m : Mission) → IsMission m → m.clean ≡ true → IsClaimed m) → (w : Bare) (m : Mission) (moments : List (Bare × Mission))
    → IsGroundOf w m → IsMission m → FieldRun w m moments → IsTakenThrough moments
field_run keeps claims w m [] g h run = tt
field_run keeps claims w m (next ∷ others) g h run =
    let on = moved keeps w next.0 m next.1 g h run.1 run.2 run.0 in (
      (λ clean. taken_once next.0 next.1 on.0 (claims next.1 on.1 clean)),
      field_run keeps claims next.0 next.1 others on.0 on.1 run.3,
    )
