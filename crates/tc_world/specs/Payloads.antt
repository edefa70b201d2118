-- Which payload flies for a request: whatever waits, is queued, flies or comes on board has what was offered of it.
use Rattle.std.specs.Prelude.{◌≡◌, ℕ, ◌==◌, true, List}
use Rattle.std.specs.List.{list_any, AllByRecursion}
use Rattle.tc_types.specs.declared.link.telecommands.Payload.{Payload}
use Rattle.tc_types.specs.declared.link.frames.Frame.{Frame}
use Rattle.tc_types.specs.declared.link.frames.Frame.TheVariants.{Ad, Unlock, SetVr}
use Rattle.tc_farm.specs.declared.farms.FrameVerdict.TheVariants.{Accepted, Discarded, Control}
use Rattle.tc_fop.specs.Machine.{Waiting, Held, option_list}
use Rattle.tc_world.specs.declared.events.Event.{Event}
use Rattle.tc_world.specs.declared.events.Event.TheVariants as event
use Rattle.tc_world.specs.declared.events.LinkIndication.{LinkIndication}
use Rattle.tc_world.specs.declared.events.LinkIndication.TheVariants.{Fop, Farm, Received, Lost, Transmitted}
use Rattle.tc_world.specs.Abstraction.{Bare}
use Rattle.tc_world.specs.World.{all_sent}

-- n is one of these
abbrev pub IsOneOf : ℕ → List ℕ → Type 0
IsOneOf n numbers = list_any (λ (m : ℕ). m == n) numbers ≡ true

-- a type-AD frame carries a request that was sent, with a payload of which P holds; other frames carry none
abbrev pub CarriesOf : (P : ℕ → Payload → Type 0) → List ℕ → Frame → Type 0
CarriesOf P sent (Ad number request body) = P request body × IsOneOf request sent
CarriesOf P sent Unlock = Unit {0}
CarriesOf P sent (SetVr v) = Unit {0}

-- Of each request that waits P holds with its payload; of each that is in the Sent_Queue or flies too, and it was sent.
pub record AreCarried (P : ℕ → Payload → Type 0) (w : Bare) : Type 0 where
  pub waiting : AllByRecursion (λ (x : Waiting). P x.request x.body) (option_list w.fop.waiting)
  pub held : AllByRecursion (λ (h : Held). P h.request h.body × IsOneOf h.request (all_sent w)) w.fop.sent
  pub control : AllByRecursion (CarriesOf P (all_sent w)) (option_list w.fop.control)
  pub up : AllByRecursion (CarriesOf P (all_sent w)) w.up

-- what is offered
abbrev pub IsOfferOf : (P : ℕ → Payload → Type 0) → Event → Type 0
IsOfferOf P (event.Offer request body) = P request body
IsOfferOf P (event.Directive given) = Unit {0}
IsOfferOf P event.Tick = Unit {0}
IsOfferOf P (event.Uplink free_buffer) = Unit {0}
IsOfferOf P (event.LoseUp place) = Unit {0}
IsOfferOf P event.Release = Unit {0}
IsOfferOf P event.Clcw = Unit {0}
IsOfferOf P (event.Put telemetry) = Unit {0}
IsOfferOf P event.Downlink = Unit {0}
IsOfferOf P (event.LoseDown place) = Unit {0}
IsOfferOf P event.Transmit = Unit {0}
IsOfferOf P (event.Hear item) = Unit {0}

-- what is told to be accepted on board, and the frame that the front end is given
abbrev pub IsToldOf : (P : ℕ → Payload → Type 0) → List ℕ → LinkIndication → Type 0
IsToldOf P sent (Fop i) = Unit {0}
IsToldOf P sent (Farm (Accepted request body)) = P request body × IsOneOf request sent
IsToldOf P sent (Farm Discarded) = Unit {0}
IsToldOf P sent (Farm Control) = Unit {0}
IsToldOf P sent (Received item) = Unit {0}
IsToldOf P sent Lost = Unit {0}
IsToldOf P sent (Transmitted frame) = CarriesOf P sent frame
