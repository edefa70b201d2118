-- Events in turn, and where a run of them ends.
use Rattle.std.specs.Prelude.{◌≡◌, ℕ, true, Option, Some, None, List, [], ◌∷◌, map, take, slice_get, length}
use Rattle.tc_types.specs.declared.link.frames.Frame.{Frame}
use Rattle.tc_types.specs.declared.link.reports.Report.{Report}
use Rattle.tc_types.specs.declared.refusals.Refusal.{Refusal}
use Rattle.tc_world.specs.declared.events.Event.{Event}
use Rattle.tc_world.specs.declared.events.LinkIndication.{LinkIndication}
use Rattle.tc_world.specs.Links.{Kind}
use Rattle.tc_world.specs.Abstraction.{seen}
use Rattle.std.specs.List.{list_all}
use Rattle.tc_world.specs.Fair.{is_fair}
use Rattle.tc_world.specs.Window.{FollowsThrough}
use Rattle.tc_world.specs.World.{Whole, Happens, IsRefused, IsAsBefore, IsSpared}

-- these events happen in turn, each to the next of these worlds
abbrev pub Runs : {U D : Type 0} → Kind U Frame → Kind D Report → List Event → Whole U D → List (Whole U D) → Whole U D → Type 0
Runs uplink downlink [] old [] new = new ≡ old
Runs uplink downlink [] old (next ∷ worlds) new = ⊥
Runs uplink downlink (given ∷ others) old [] new = ⊥
Runs uplink downlink (given ∷ others) old (next ∷ worlds) new =
    (answer : List LinkIndication) × Happens uplink downlink given old next answer × Runs uplink downlink others next worlds new

-- The same, and no alert is told but those that may come in the state of the FOP: also in S4 as the last start was level
-- or not.
abbrev pub RunsFairly : {U D : Type 0} → Kind U Frame → Kind D Report → List Event → Whole U D → List (Whole U D) → Whole U D → Type 0
RunsFairly uplink downlink [] old [] new = new ≡ old
RunsFairly uplink downlink [] old (next ∷ worlds) new = ⊥
RunsFairly uplink downlink (given ∷ others) old [] new = ⊥
RunsFairly uplink downlink (given ∷ others) old (next ∷ worlds) new =
    (answer : List LinkIndication) × Happens uplink downlink given old next answer
    × (list_all (is_fair old.level old.fop.state) answer ≡ true) × RunsFairly uplink downlink others next worlds new

-- Events happen in turn; and while every start was good each of them is, to the same worlds, a run of the session that
-- is on, or another session begins; and while K fitted too only those alerts come that may.
pub record RunsOn {U D : Type 0} (uplink : Kind U Frame) (downlink : Kind D Report) (events : List Event) (old new : Whole U D) : Type 0 where
  pub worlds : List (Whole U D)
  pub happen : Runs uplink downlink events old worlds new
  pub window : new.clean ≡ true
      → FollowsThrough (seen uplink downlink old) (map (λ (w : Whole U D). seen uplink downlink w) worlds) (seen uplink downlink new)
  pub fair : new.clean ≡ true → new.fits ≡ true → RunsFairly uplink downlink events old worlds new

-- Where a run ends: after so many events, where there is no other, or where the next one is refused, as it stood then;
-- memory is not refused to one that is spared.
abbrev pub EndsBy : {U D : Type 0} → Kind U Frame → Kind D Report → (D → ℕ) → List Event → ℕ → Option Refusal → Whole U D → Type 0
EndsBy uplink downlink covered events done None w = done ≡ length events
EndsBy uplink downlink covered events done (Some refusal) w =
    (next : Event) × (slice_get events done ≡ Some next) × IsRefused next w refusal
    × ¬ IsSpared uplink downlink covered next w

pub record IsRun {U D : Type 0} (uplink : Kind U Frame) (downlink : Kind D Report) (covered : D → ℕ) (events : List Event) (done : ℕ) (refusal : Option Refusal) (old new : Whole U D) : Type 0 where
  pub last : Whole U D
  pub runs : RunsOn uplink downlink (take done events) old last
  pub ends : EndsBy uplink downlink covered events done refusal last
  pub stands : IsAsBefore uplink downlink last new
