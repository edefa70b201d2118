-- A link over the air: a desk on the ground, a FARM of the table far away, and the air between them. A mission is a world
-- whose uplink stands in two places.
use Rattle.std.specs.Prelude.{◌≡◌, ◌⊎◌, ℕ, Bool, true, false, List, [], ◌∷◌, ◌++◌, map}
use Rattle.std.specs.List.{flat_map}
use Rattle.tc_types.specs.declared.link.frames.Frame.{Frame}
use Rattle.tc_types.specs.declared.link.reports.Report.{Report}
use Rattle.tc_farm.specs.declared.farms.FarmView.{FarmView}
use Rattle.tc_farm.specs.Farm.{IsFarm}
use Rattle.tc_fop.specs.Machine.{Machine}
use Rattle.tc_fop.specs.Standing.{IsFop}
use Rattle.tc_world.specs.declared.events.Event.{Event}
use Rattle.tc_world.specs.declared.events.Event.TheVariants as event
use Rattle.tc_world.specs.declared.events.LinkIndication.{LinkIndication}
use Rattle.tc_world.specs.declared.events.LinkIndication.TheVariants.{Fop, Farm, Received, Lost, Transmitted}
use Rattle.tc_world.specs.Sublist.{IsSublist}
use Rattle.tc_world.specs.Links.{Kind, lossy}
use Rattle.tc_world.specs.Logs.{Log, blank}
use Rattle.tc_world.specs.Abstraction.{Bare, seen}
use Rattle.tc_world.specs.Kept.{IsKept}
use Rattle.tc_world.specs.Fitting.{IsFit, IsNarrow}
use Rattle.tc_world.specs.Fair.{IsFairOn}
use Rattle.tc_world.specs.Window.{Distinct, IsPrefix, all_accepted}
use Rattle.tc_world.specs.World.{Whole, Happens, all_sent, is_fitting}

-- the frames on the ground that the front end has not taken, and those in the air, the oldest first
pub record Relay : Type 0 where
  pub queue : List Frame
  pub air : List Frame

-- What flies up is what is in the air, and behind it the queue. A frame is put behind the queue, and arrives out of the air.
-- Any frame may be lost in its place; none comes twice, passes another, or is made.
abbrev pub relayed : Kind Relay Frame
relayed = record {
  content = λ (r : Relay). r.air ++ r.queue;
  without_room = λ (r : Relay). r;
  puts = λ (old : Relay) (item : Frame) (new : Relay). IsSublist new.queue (old.queue ++ item ∷ []) × (new.air ≡ old.air);
  takes = λ (old : Relay) (item : Frame) (new : Relay). (lost : List Frame) × (old.air ≡ lost ++ item ∷ new.air) × (new.queue ≡ old.queue);
  loses = λ (old : Relay) (place : ℕ) (answer : Bool) (new : Relay). IsSublist new.air old.air × (new.queue ≡ old.queue);
}

-- The ground's FOP and sessions, the far FARM, the uplink in its two places, and what is in the air downwards. Its logs are a
-- bystander's: what was accepted stands in them, which the ground does not see. A start is good where nothing is in the air
-- nor in the queue, and both sides agree.
abbrev pub Mission : Type 0
Mission = Whole Relay (List Report)

-- a mission, as a world over lists
abbrev pub world_of : Mission → Bare
world_of m = seen relayed lossy m

-- The front end took a frame of the queue, and it is in the air behind the others; any of these may be lost.
pub record GoesUp (m n : Mission) (answer : List LinkIndication) : Type 0 where
  pub frame : Frame
  pub lost : List Frame
  pub taken : m.up.queue ≡ lost ++ frame ∷ n.up.queue
  pub air : IsSublist n.up.air (m.up.air ++ frame ∷ [])
  pub whole : n ≡ record m { up = n.up }
  pub answered : answer ≡ Transmitted frame ∷ []

-- One step of a mission: what happens in any world, on one side or in the air; or the front end takes a frame.
abbrev pub MissionStep : Mission → Mission → List LinkIndication → Type 0
MissionStep m n answer = ((given : Event) × Happens relayed lossy given m n answer) ⊎ GoesUp m n answer

-- what stands between two steps
pub record IsMission (m : Mission) : Type 0 where
  pub kept : IsKept (world_of m)
  pub fit : IsFit (world_of m)
  pub fair : IsFairOn (world_of m)
  pub narrow : IsNarrow (world_of m)

-- a mission in which nothing happened yet
abbrev pub first_mission : Machine → FarmView → ℕ → Mission
first_mission fop farm vc = record {
  fop = fop;
  farm = farm;
  up = record { queue = []; air = [] };
  down = [];
  past = [];
  newest = blank 0;
  clean = true;
  fits = is_fitting fop farm;
  level = false;
  vc = vc;
}

-- ---- the ground

-- a session as the ground sees it: not what was accepted
abbrev pub from_ground : Log → Log
from_ground log = record log { accepted = [] }

-- a desk in which nothing happened yet, with a FARM of its own
abbrev pub new_ground : Machine → FarmView → ℕ → Bool → Bare
new_ground fop own vc fits =
    record { fop = fop; farm = own; up = []; down = []; past = []; newest = blank 0; clean = true; fits = fits; level = false; vc = vc }

-- This desk is the ground of this mission, whatever its own FARM and downlink are: the same FOP, the queue is what flies on
-- its uplink, and the same was sent and confirmed.
pub record IsGroundOf (desk : Bare) (m : Mission) : Type 0 where
  pub fop : m.fop ≡ desk.fop
  pub queue : m.up.queue ≡ desk.up
  pub past : map from_ground m.past ≡ map from_ground desk.past
  pub newest : from_ground m.newest ≡ from_ground desk.newest
  pub vc : m.vc ≡ desk.vc

-- what an event hears from outside
abbrev pub heard_by : Event → List Report
heard_by (event.Offer request body) = []
heard_by (event.Directive given) = []
heard_by event.Tick = []
heard_by (event.Uplink free_buffer) = []
heard_by (event.LoseUp place) = []
heard_by event.Release = []
heard_by event.Clcw = []
heard_by (event.Put telemetry) = []
heard_by event.Downlink = []
heard_by (event.LoseDown place) = []
heard_by event.Transmit = []
heard_by (event.Hear item) = item ∷ []

-- what the desk does by itself: it offers, directs and ticks, its front end takes a frame, and it hears
abbrev pub is_of_desk : Event → Bool
is_of_desk (event.Offer request body) = true
is_of_desk (event.Directive given) = true
is_of_desk event.Tick = true
is_of_desk (event.Uplink free_buffer) = false
is_of_desk (event.LoseUp place) = false
is_of_desk event.Release = false
is_of_desk event.Clcw = false
is_of_desk (event.Put telemetry) = false
is_of_desk event.Downlink = false
is_of_desk (event.LoseDown place) = false
is_of_desk event.Transmit = true
is_of_desk (event.Hear item) = true

-- What a desk does over the air: what it hears is the first of what comes down.
pub record IsOverTheAir (given : Event) (m : Mission) : Type 0 where
  pub own : is_of_desk given ≡ true
  pub left : List Report
  pub heard : m.down ≡ heard_by given ++ left

-- what happens far away and in the air
abbrev pub is_far : Event → Bool
is_far (event.Offer request body) = false
is_far (event.Directive given) = false
is_far event.Tick = false
is_far (event.Uplink free_buffer) = true
is_far (event.LoseUp place) = true
is_far event.Release = true
is_far event.Clcw = true
is_far (event.Put telemetry) = true
is_far event.Downlink = false
is_far (event.LoseDown place) = true
is_far event.Transmit = false
is_far (event.Hear item) = false

-- the frame that is told to be taken
abbrev pub taken_by : LinkIndication → List Frame
taken_by (Fop i) = []
taken_by (Farm verdict) = []
taken_by (Received item) = []
taken_by Lost = []
taken_by (Transmitted frame) = frame ∷ []

-- What the desk's own event is to the mission: the same event; the front end takes a frame, or none is there; and what is heard is
-- the first of what comes down.
abbrev pub StepOver : Event → Mission → Mission → List LinkIndication → Type 0
StepOver (event.Offer request body) m n answer = Happens relayed lossy (event.Offer request body) m n answer
StepOver (event.Directive given) m n answer = Happens relayed lossy (event.Directive given) m n answer
StepOver event.Tick m n answer = Happens relayed lossy event.Tick m n answer
StepOver (event.Uplink free_buffer) m n answer = ⊥
StepOver (event.LoseUp place) m n answer = ⊥
StepOver event.Release m n answer = ⊥
StepOver event.Clcw m n answer = ⊥
StepOver (event.Put telemetry) m n answer = ⊥
StepOver event.Downlink m n answer = ⊥
StepOver (event.LoseDown place) m n answer = ⊥
StepOver event.Transmit m n answer = (n ≡ m) ⊎ GoesUp m n answer
StepOver (event.Hear item) m n answer = Happens relayed lossy event.Downlink m n answer

-- What the desk did is that step of the mission. The frame that it told is now the last in the air,
-- what it heard is no more there, and nothing else of the air nor of the far FARM is otherwise.
pub record IsSameStep (given : Event) (desk : Bare) (answer : List LinkIndication) (m n : Mission) : Type 0 where
  pub step : StepOver given m n answer
  pub ground : IsGroundOf desk n
  pub up : n.up.air ≡ m.up.air ++ flat_map taken_by answer
  pub down : m.down ≡ heard_by given ++ n.down
  pub farm : n.farm ≡ m.farm

-- ---- the headline

-- Session by session, of a desk and of its mission: what the desk calls confirmed was accepted far away, in order, and that was sent,
-- in order.
abbrev pub AreTaken : List Log → List Log → Type 0
AreTaken [] [] = Unit {0}
AreTaken [] (far ∷ others) = ⊥
AreTaken (desk ∷ desks) [] = ⊥
AreTaken (desk ∷ desks) (far ∷ others) = IsPrefix desk.confirmed far.accepted × IsPrefix far.accepted desk.sent × AreTaken desks others

-- and nothing was accepted twice, nor sent twice
pub record IsTakenOnce (desk : Bare) (m : Mission) : Type 0 where
  pub taken : AreTaken (desk.past ++ desk.newest ∷ []) (m.past ++ m.newest ∷ [])
  pub accepted_once : Distinct (all_accepted m)
  pub sent_once : Distinct (all_sent desk)

-- One move in the field: the desk acts, and the mission with it; or it stands, and something happens far away or in the air.
abbrev pub FieldMove : Bare → Mission → Bare → Mission → Type 0
FieldMove w m v n =
    ((given : Event) × (answer : List LinkIndication) × IsOverTheAir given m × Happens lossy lossy given w v answer × IsSameStep given v answer m n)
    ⊎ ((v ≡ w) × (given : Event) × (answer : List LinkIndication) × (is_far given ≡ true) × Happens relayed lossy given m n answer)

-- moves, one after the other, each to the next of these desks and missions, of which all machines are sound
abbrev pub FieldRun : Bare → Mission → List (Bare × Mission) → Type 0
FieldRun w m [] = Unit {0}
FieldRun w m (next ∷ others) =
    FieldMove w m next.0 next.1 × IsFop next.1.fop × IsFarm next.1.farm × FieldRun next.0 next.1 others

-- at each moment of a run, while every start was good
abbrev pub IsTakenThrough : List (Bare × Mission) → Type 0
IsTakenThrough [] = Unit {0}
IsTakenThrough (next ∷ others) = (next.1.clean ≡ true → IsTakenOnce next.0 next.1) × IsTakenThrough others
