-- FOP-1 as a machine: its variables (CCSDS 232.1-B, 5.1), what it puts out, and what each named action does to both.
use Rattle.std.specs.Prelude.{ℕ, ◌+◌, ◌-◌, ◌%◌, nat_lt, Bool, true, false, if◌then◌else◌, Option, Some, None, List, [], ◌∷◌, ◌++◌, map, filter, take, drop}
use Rattle.tc_types.specs.declared.link.telecommands.Payload.{Payload}
use Rattle.tc_types.specs.declared.link.frames.Frame.{Frame}
use Rattle.tc_types.specs.declared.link.frames.Frame.TheVariants.{Ad}
use Rattle.tc_farm.specs.Farm.{distance}
use Rattle.tc_fop.specs.declared.signals.FopState.{FopState}
use Rattle.tc_fop.specs.declared.signals.FopState.TheVariants.{Initial}
use Rattle.tc_fop.specs.declared.signals.AlertKind.{AlertKind}
use Rattle.tc_fop.specs.declared.signals.Indication.{Indication}
use Rattle.tc_fop.specs.declared.signals.Indication.TheVariants as indication

-- a request that waits for its transmission
pub record Waiting : Type 0 where
  pub request : ℕ
  pub body : Payload

-- a request in the Sent_Queue: the number of its frame, and whether it is To_Be_Retransmitted
pub record Held : Type 0 where
  pub ns : ℕ
  pub request : ℕ
  pub body : Payload
  pub flagged : Bool

pub record Machine : Type 0 where
  pub state : FopState
  pub vs : ℕ  -- V(S), the number of the next frame
  pub nn : ℕ  -- NN(R), the number of the oldest frame that is not acknowledged
  pub sent : List Held  -- Sent_Queue, from the front
  pub waiting : Option Waiting  -- Wait_Queue
  pub control : Option Frame  -- the copy of the BC frame that is not acknowledged
  pub t1 : ℕ  -- T1_Initial, in ticks
  pub timer : ℕ  -- ticks that are left; 0 is not running
  pub limit : ℕ  -- Transmission_Limit
  pub count : ℕ  -- Transmission_Count
  pub k : ℕ  -- K, the FOP sliding window width

-- what a call puts out, each in order
pub record Out : Type 0 where
  pub frames : List Frame
  pub indications : List Indication

abbrev pub nothing : Out
nothing = record { frames = []; indications = [] }

abbrev pub joined : Out → Out → Out
joined a b = record { frames = a.frames ++ b.frames; indications = a.indications ++ b.indications }

pub data Action : Type 0 where
  Remove : ℕ → Action  -- confirm and drop the d fronts of the Sent_Queue, NN(R) := N(R), count := 1
  InitiateRetransmission : Action  -- count + 1, start the timer, flag the whole Sent_Queue
  Resend : Action  -- send all flagged frames in order and clear their flags
  Transmit : Action  -- transmit the waiting request, if there is one and the window is open
  Alert : AlertKind → Action  -- cancel the timer, give back both queues, drop a BC copy, to S6
  StartTimer : Action
  CancelTimer : Action
  LowerTimer : Action
  CountOne : Action  -- count + 1
  SendControl : Action  -- send the BC frame
  DropControl : Action
  Begin : Action  -- the service began
  To : FopState → Action
  Wait : Waiting → Action  -- the request waits
  Initiate : Option Frame → Action  -- queues empty, count := 1, NN(R) := V(S), keep a copy of the BC frame
  SetVsAlone : ℕ → Action  -- V(S) := v
  SetVsAndNn : ℕ → Action  -- V(S) := v, NN(R) := v
  SetKTo : ℕ → Action
  SetT1To : ℕ → Action
  SetLimitTo : ℕ → Action

-- the frame of a request in the Sent_Queue
abbrev pub frame_of : Held → Frame
frame_of held = Ad held.ns held.request held.body

abbrev pub flagged : Held → Held
flagged held = record held { flagged = true }

abbrev pub cleared : Held → Held
cleared held = record held { flagged = false }

-- the flagged ones of the queue
abbrev pub flagged_of : List Held → List Held
flagged_of sent = filter (λ (held : Held). held.flagged) sent

-- the window is open where fewer than K frames are out
abbrev pub is_window_open : Machine → Bool
is_window_open m = nat_lt (distance m.vs m.nn) m.k

-- the waiting request that may be transmitted now
abbrev pub due_from : Bool → Option Waiting → Option Waiting
due_from true waiting = waiting
due_from false waiting = None

abbrev pub due : Machine → Option Waiting
due m = due_from (is_window_open m) m.waiting

abbrev pub is_empty : List Held → Bool
is_empty [] = true
is_empty (first ∷ others) = false

-- transmit: number with V(S), V(S) + 1, count := 1 if the Sent_Queue was empty, start the timer
abbrev pub transmitted : Option Waiting → Machine → Machine
transmitted None m = m
transmitted (Some w) m = record m {
  vs = (m.vs + 1) % 256;
  sent = m.sent ++ record { ns = m.vs; request = w.request; body = w.body; flagged = false } ∷ [];
  waiting = None;
  count = if is_empty m.sent then 1 else m.count;
  timer = m.t1;
}

abbrev pub transmits : Option Waiting → ℕ → Out
transmits None vs = nothing
transmits (Some w) vs = record { frames = Ad vs w.request w.body ∷ []; indications = indication.Sent w.request ∷ [] }

-- what an action does to the variables; what it does not name stays
abbrev pub change : Action → Machine → Machine
change (Remove d) m = record m { sent = drop d m.sent; nn = (m.nn + d) % 256; count = 1 }
change InitiateRetransmission m = record m { count = m.count + 1; timer = m.t1; sent = map flagged m.sent }
change Resend m = record m { sent = map cleared m.sent }
change Transmit m = transmitted (due m) m
change (Alert kind) m = record m { state = Initial; sent = []; waiting = None; control = None; timer = 0 }
change StartTimer m = record m { timer = m.t1 }
change CancelTimer m = record m { timer = 0 }
change LowerTimer m = record m { timer = m.timer - 1 }
change CountOne m = record m { count = m.count + 1 }
change SendControl m = m
change DropControl m = record m { control = None }
change Begin m = m
change (To state) m = record m { state = state }
change (Wait w) m = record m { waiting = Some w }
change (Initiate frame) m = record m { sent = []; waiting = None; count = 1; nn = m.vs; control = frame }
change (SetVsAlone v) m = record m { vs = v }
change (SetVsAndNn v) m = record m { vs = v; nn = v }
change (SetKTo k) m = record m { k = k }
change (SetT1To t1) m = record m { t1 = t1 }
change (SetLimitTo limit) m = record m { limit = limit }

abbrev pub option_list : {X : Type 0} → Option X → List X
option_list None = []
option_list (Some x) = x ∷ []

-- an alert: in doubt is the Sent_Queue from the front; given back is the waiting request
abbrev pub given_back : AlertKind → Machine → List Indication
given_back kind m =
    map (λ (held : Held). indication.InDoubt held.request) m.sent
    ++ map (λ (w : Waiting). indication.GivenBack w.request) (option_list m.waiting)
    ++ indication.Alert kind ∷ []

-- what an action puts out
abbrev pub said : Action → Machine → Out
said (Remove d) m = record { frames = []; indications = map (λ (held : Held). indication.Confirmed held.request) (take d m.sent) }
said InitiateRetransmission m = nothing
said Resend m = record { frames = map frame_of (flagged_of m.sent); indications = [] }
said Transmit m = transmits (due m) m.vs
said (Alert kind) m = record { frames = []; indications = given_back kind m }
said StartTimer m = nothing
said CancelTimer m = nothing
said LowerTimer m = nothing
said CountOne m = nothing
said SendControl m = record { frames = option_list m.control; indications = [] }
said DropControl m = nothing
said Begin m = record { frames = []; indications = indication.Started ∷ [] }
said (To state) m = nothing
said (Wait w) m = nothing
said (Initiate frame) m = nothing
said (SetVsAlone v) m = nothing
said (SetVsAndNn v) m = nothing
said (SetKTo k) m = nothing
said (SetT1To t1) m = nothing
said (SetLimitTo limit) m = nothing

-- a list of actions, one after the other
abbrev pub after : List Action → Machine → Machine
after [] m = m
after (action ∷ others) m = after others (change action m)

abbrev pub output : List Action → Machine → Out
output [] m = nothing
output (action ∷ others) m = joined (said action m) (output others (change action m))
