-- What becomes of requests, above the table: in which queue they are, by what they leave it, and under which number
-- they fly.
use Rattle.std.specs.Prelude.{◌≡◌, ℕ, ◌≤◌, Bool, true, false, ◌⊎◌, Option, Some, None, List, [], ◌∷◌, ◌++◌, map, take, drop, length}
use Rattle.std.specs.List.{flat_map, list_any}
use Rattle.tc_types.specs.declared.link.frames.Frame.{Frame}
use Rattle.tc_types.specs.declared.link.frames.Frame.TheVariants.{Ad}
use Rattle.tc_farm.specs.declared.clcws.Clcw.{Clcw}
use Rattle.tc_farm.specs.Farm.{distance}
use Rattle.tc_fop.specs.declared.signals.AlertKind.{AlertKind}
use Rattle.tc_fop.specs.declared.signals.Indication.{Indication}
use Rattle.tc_fop.specs.declared.signals.Indication.TheVariants as indication
use Rattle.tc_fop.specs.Machine.{Machine, Held, Waiting, Out, frame_of, option_list, given_back}
use Rattle.tc_fop.specs.Calls.{is_initial}

-- the requests that were transmitted, from the front of the Sent_Queue
abbrev pub sent_requests : Machine → List ℕ
sent_requests m = map (λ (held : Held). held.request) m.sent

-- the request that waits, if there is one
abbrev pub waiting_requests : Machine → List ℕ
waiting_requests m = map (λ (w : Waiting). w.request) (option_list m.waiting)

-- the requests in both queues, the oldest first
abbrev pub queued : Machine → List ℕ
queued m = sent_requests m ++ waiting_requests m

-- the request that leaves the queues with this indication
abbrev pub ends : Indication → List ℕ
ends (indication.Sent n) = []
ends (indication.Confirmed n) = n ∷ []
ends (indication.GivenBack n) = n ∷ []
ends (indication.InDoubt n) = n ∷ []
ends (indication.Alert kind) = []
ends indication.Started = []

-- the request that leaves the Wait_Queue with this indication
abbrev pub leaves : Indication → List ℕ
leaves (indication.Sent n) = n ∷ []
leaves (indication.Confirmed n) = []
leaves (indication.GivenBack n) = n ∷ []
leaves (indication.InDoubt n) = []
leaves (indication.Alert kind) = []
leaves indication.Started = []

-- the request that this indication confirms
abbrev pub confirms : Indication → List ℕ
confirms (indication.Sent n) = []
confirms (indication.Confirmed n) = n ∷ []
confirms (indication.GivenBack n) = []
confirms (indication.InDoubt n) = []
confirms (indication.Alert kind) = []
confirms indication.Started = []

abbrev pub is_first : Indication → Bool
is_first (indication.Sent n) = true
is_first (indication.Confirmed n) = false
is_first (indication.GivenBack n) = false
is_first (indication.InDoubt n) = false
is_first (indication.Alert kind) = false
is_first indication.Started = false

-- a request was transmitted for the first time
abbrev pub is_transmitting : Out → Bool
is_transmitting out = list_any is_first out.indications

-- No request is lost between the queues and none leaves them twice: those before, and the one that is offered, are
-- those that this output confirms, gives back or tells to be in doubt, and then those after, in order.
abbrev pub KeepsRequests : List ℕ → Machine → Machine → Out → Type 0
KeepsRequests offered old new out = queued old ++ offered ≡ flat_map ends out.indications ++ queued new

-- Requests are transmitted in the order offered: the one that waits and the one that is offered are those that this
-- output tells to be sent or given back, and then the one that waits after.
abbrev pub KeepsOrder : List ℕ → Machine → Machine → Out → Type 0
KeepsOrder offered old new out = waiting_requests old ++ offered ≡ flat_map leaves out.indications ++ waiting_requests new

-- how many frames the report value acknowledges
abbrev pub acknowledged : Machine → Option Clcw → ℕ
acknowledged m None = 0
acknowledged m (Some word) = distance word.report m.nn

-- Confirmed are requests from the front of the Sent_Queue, and at most so many.
abbrev pub ConfirmsFront : ℕ → Machine → Out → Type 0
ConfirmsFront most old out = (d : ℕ) × (d ≤ most) × (flat_map confirms out.indications ≡ take d (sent_requests old))

-- at a transmission at most K frames are out
abbrev pub KeepsWindow : Machine → Out → Type 0
KeepsWindow new out = is_transmitting out ≡ true → length new.sent ≤ new.k

-- Where the service stops, the output confirms some d from the front of the Sent_Queue, tells the others to be in doubt,
-- from the front, gives the waiting request back, and ends with the alert.
abbrev pub GivesBack : Machine → Machine → Out → Type 0
GivesBack old new out =
    is_initial new.state ≡ true → is_initial old.state ≡ false
    → (d : ℕ) × (kind : AlertKind)
    × (out.indications ≡ map (λ (held : Held). indication.Confirmed held.request) (take d old.sent) ++ given_back kind (record old { sent = drop d old.sent }))

-- The frames that a FOP may put out: the BC frame, those of the Sent_Queue under the numbers that they had, and that of
-- the waiting request under V(S).
abbrev pub frames_of : Machine → List Frame
frames_of m =
    option_list m.control
    ++ map frame_of m.sent
    ++ map (λ (w : Waiting). Ad m.vs w.request w.body) (option_list m.waiting)

abbrev pub IsAmong : List Frame → Frame → Type 0
IsAmong [] frame = ⊥
IsAmong (first ∷ others) frame = (frame ≡ first) ⊎ IsAmong others frame

abbrev pub AreAmong : List Frame → List Frame → Type 0
AreAmong may [] = Unit {0}
AreAmong may (frame ∷ frames) = IsAmong may frame × AreAmong may frames
