-- What an event tells of requests.
use Rattle.std.specs.Prelude.{◌≡◌, ℕ, List, [], ◌∷◌, ◌++◌}
use Rattle.std.specs.List.{flat_map}
use Rattle.tc_fop.specs.Requests.{waiting_requests, leaves, confirms}
use Rattle.tc_fop.specs.Moves.{transmitted_by}
use Rattle.tc_world.specs.declared.events.Event.{Event}
use Rattle.tc_world.specs.declared.events.Event.TheVariants as event
use Rattle.tc_world.specs.declared.events.LinkIndication.{LinkIndication}
use Rattle.tc_world.specs.declared.events.LinkIndication.TheVariants.{Fop, Farm, Received, Lost, Transmitted}
use Rattle.tc_world.specs.Logs.{accepted_by}
use Rattle.tc_world.specs.World.{Whole, all_sent}
use Rattle.tc_world.specs.Window.{all_accepted, all_confirmed}

-- the request that leaves the wait queue with this: it is sent, or given back
abbrev pub leaves_said : LinkIndication → List ℕ
leaves_said (Fop i) = leaves i
leaves_said (Farm verdict) = []
leaves_said (Received item) = []
leaves_said Lost = []
leaves_said (Transmitted frame) = []

-- the request that this tells to be sent for the first time
abbrev pub sent_said : LinkIndication → List ℕ
sent_said (Fop i) = transmitted_by i
sent_said (Farm verdict) = []
sent_said (Received item) = []
sent_said Lost = []
sent_said (Transmitted frame) = []

-- the request that this tells to be accepted on board
abbrev pub accepted_said : LinkIndication → List ℕ
accepted_said (Fop i) = []
accepted_said (Farm verdict) = accepted_by verdict
accepted_said (Received item) = []
accepted_said Lost = []
accepted_said (Transmitted frame) = []

-- the request that this tells to be confirmed
abbrev pub confirmed_said : LinkIndication → List ℕ
confirmed_said (Fop i) = confirms i
confirmed_said (Farm verdict) = []
confirmed_said (Received item) = []
confirmed_said Lost = []
confirmed_said (Transmitted frame) = []

abbrev pub offered_by : Event → List ℕ
offered_by (event.Offer request body) = request ∷ []
offered_by (event.Directive given) = []
offered_by event.Tick = []
offered_by (event.Uplink free_buffer) = []
offered_by (event.LoseUp place) = []
offered_by event.Release = []
offered_by event.Clcw = []
offered_by (event.Put telemetry) = []
offered_by event.Downlink = []
offered_by (event.LoseDown place) = []
offered_by event.Transmit = []
offered_by (event.Hear item) = []

-- No request is lost from the wait queue: the one that waits and the one that is offered are those that are told to be
-- sent or given back, and then the one that waits after. Those that are told to be sent, accepted or confirmed are what
-- is written down, in order, and nothing else is.
pub record TellsRequests {U D : Type 0} (given : Event) (old new : Whole U D) (answer : List LinkIndication) : Type 0 where
  pub waits : waiting_requests old.fop ++ offered_by given ≡ flat_map leaves_said answer ++ waiting_requests new.fop
  pub sent : all_sent new ≡ all_sent old ++ flat_map sent_said answer
  pub accepted : all_accepted new ≡ all_accepted old ++ flat_map accepted_said answer
  pub confirmed : all_confirmed new ≡ all_confirmed old ++ flat_map confirmed_said answer
