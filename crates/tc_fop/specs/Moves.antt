-- What one call makes of the service, seen from above the table: by the state in which the call comes, what is
-- confirmed, what is sent again, what is sent for the first time, and where the service stands after.
use Rattle.std.specs.Prelude.{◌≡◌, ℕ, ◌+◌, ◌%◌, ◌<◌, ◌≤◌, Bool, true, false, is_some, ◌⊎◌, if◌then◌else◌, Option, Some, None, List, [], ◌∷◌, ◌++◌, map, take, drop, length}
use Rattle.std.specs.List.{flat_map}
use Rattle.tc_types.specs.declared.link.frames.Frame.{Frame}
use Rattle.tc_types.specs.declared.link.frames.Frame.TheVariants as frame
use Rattle.tc_farm.specs.declared.clcws.Clcw.{Clcw}
use Rattle.tc_farm.specs.Farm.{distance}
use Rattle.tc_fop.specs.declared.signals.FopState.{FopState}
use Rattle.tc_fop.specs.declared.signals.FopState.TheVariants.{Active, RetransmitWithoutWait, RetransmitWithWait, InitialisingWithoutBc, InitialisingWithBc, Initial}
use Rattle.tc_types.specs.declared.link.directives.Directive.{Directive}
use Rattle.tc_types.specs.declared.link.directives.Directive.TheVariants as directive
use Rattle.tc_fop.specs.declared.signals.Indication.{Indication}
use Rattle.tc_fop.specs.declared.signals.Indication.TheVariants as indication
use Rattle.tc_fop.specs.Machine.{Machine, Waiting, Out, frame_of, option_list, nothing}
use Rattle.tc_fop.specs.Calls.{is_taking, is_initial}
use Rattle.tc_fop.specs.Standing.{is_starting}
use Rattle.tc_fop.specs.Requests.{sent_requests, confirms, acknowledged}

-- the request that this indication tells to be sent for the first time
abbrev pub transmitted_by : Indication → List ℕ
transmitted_by (indication.Sent n) = n ∷ []
transmitted_by (indication.Confirmed n) = []
transmitted_by (indication.GivenBack n) = []
transmitted_by (indication.InDoubt n) = []
transmitted_by (indication.Alert kind) = []
transmitted_by indication.Started = []

-- whether the service began
abbrev pub is_start : Indication → Bool
is_start (indication.Sent n) = false
is_start (indication.Confirmed n) = false
is_start (indication.GivenBack n) = false
is_start (indication.InDoubt n) = false
is_start (indication.Alert kind) = false
is_start indication.Started = true

-- the requests that an output tells to be confirmed, and those that it tells to be sent for the first time
abbrev pub confirmed_in : Out → List ℕ
confirmed_in out = flat_map confirms out.indications

abbrev pub transmitted_in : Out → List ℕ
transmitted_in out = flat_map transmitted_by out.indications

-- how often an output tells that the service began
abbrev pub starts_in : Out → List Indication
starts_in out = flat_map (λ (i : Indication). if is_start i then i ∷ [] else []) out.indications

-- the frame of a request that is sent for the first time
abbrev pub first_frame : ℕ → Waiting → Frame
first_frame ns w = frame.Ad ns w.request w.body

-- the service after so many were confirmed, and this one was sent for the first time
pub record GoesOn (confirmed : ℕ) (fresh : Option Waiting) (old new : Machine) : Type 0 where
  pub nn : new.nn ≡ (old.nn + confirmed) % 256
  pub vs : new.vs ≡ (old.vs + length (option_list fresh)) % 256
  pub sent : sent_requests new ≡ drop confirmed (sent_requests old) ++ map (λ (w : Waiting). w.request) (option_list fresh)

-- In S1 to S3. Confirmed are none, or as many as the report value acknowledges, from the front of the Sent_Queue. Then
-- the whole rest of it is sent again, under the numbers that it had, or nothing of it; then a waiting request is sent
-- for the first time, under V(S), or none is. The service goes on so, or it has stopped and sends nothing.
pub record Advances (acknowledged : ℕ) (old new : Machine) (out : Out) : Type 0 where
  pub confirmed : ℕ
  pub again : Bool
  pub fresh : Option Waiting
  pub few : confirmed ≤ length old.sent
  pub which : (confirmed ≡ 0) ⊎ (confirmed ≡ acknowledged)
  pub confirms : confirmed_in out ≡ take confirmed (sent_requests old)
  pub transmits : transmitted_in out ≡ map (λ (w : Waiting). w.request) (option_list fresh)
  pub frames : out.frames ≡ (if again then map frame_of (drop confirmed old.sent) else []) ++ map (first_frame old.vs) (option_list fresh)
  -- fewer than K are out
  pub few_out : is_some fresh ≡ true → length (drop confirmed old.sent) < old.k
  pub no_start : starts_in out ≡ []
  pub goes_on : is_taking new.state ≡ true → GoesOn confirmed fresh old new
  pub stops : is_taking new.state ≡ false → (new.state ≡ Initial) × (out.frames ≡ []) × (fresh ≡ None)

-- the start goes on
pub record StartsOn (old new : Machine) (out : Out) : Type 0 where
  pub state : new.state ≡ old.state
  pub vs : new.vs ≡ old.vs
  pub nn : new.nn ≡ old.nn
  pub control : new.control ≡ old.control
  pub no_start : starts_in out ≡ []

-- the service begins by this control word
pub record BeginsBy (heard : Option Clcw) (old new : Machine) (out : Out) : Type 0 where
  pub word : Clcw
  pub by : heard ≡ Some word
  pub level : distance word.report old.nn ≡ 0
  pub vs : new.vs ≡ old.vs
  pub nn : new.nn ≡ old.nn
  pub sent : new.sent ≡ []
  pub frames : out.frames ≡ []
  pub start : starts_in out ≡ indication.Started ∷ []

-- In S4 and S5. Only the copy of the BC frame is sent. The start goes on, or a control word reports NN(R) and the
-- service begins with nothing out, or it is given up.
pub record Opens (heard : Option Clcw) (old new : Machine) (out : Out) : Type 0 where
  pub confirms : confirmed_in out ≡ []
  pub transmits : transmitted_in out ≡ []
  pub frames : (out.frames ≡ []) ⊎ (out.frames ≡ option_list old.control)
  pub goes_on : is_starting new.state ≡ true → StartsOn old new out
  pub begins : is_taking new.state ≡ true → BeginsBy heard old new out
  pub gives_up : is_initial new.state ≡ true → (starts_in out ≡ []) × (out.frames ≡ [])

-- in S6 nothing is put out, and it stays S6
pub record Rests (old new : Machine) (out : Out) : Type 0 where
  pub state : new.state ≡ Initial
  pub silent : out ≡ nothing

-- what a call that is no initiation makes of the service, by the state in which it comes
abbrev pub MovesIn : FopState → Option Clcw → Machine → Machine → Out → Type 0
MovesIn Active heard old new out = Advances (acknowledged old heard) old new out
MovesIn RetransmitWithoutWait heard old new out = Advances (acknowledged old heard) old new out
MovesIn RetransmitWithWait heard old new out = Advances (acknowledged old heard) old new out
MovesIn InitialisingWithoutBc heard old new out = Opens heard old new out
MovesIn InitialisingWithBc heard old new out = Opens heard old new out
MovesIn Initial heard old new out = Rests old new out

abbrev pub is_initiation : Directive → Bool
is_initiation directive.InitiateNone = true
is_initiation directive.InitiateCheck = true
is_initiation directive.InitiateUnlock = true
is_initiation (directive.InitiateSetVr v) = true
is_initiation directive.Terminate = false
is_initiation (directive.SetVs v) = false
is_initiation (directive.SetK k) = false
is_initiation (directive.SetT1 t1) = false
is_initiation (directive.SetLimit limit) = false

-- the first V(S) of the service that a directive initiates
abbrev pub first_vs : Directive → Machine → ℕ
first_vs directive.InitiateNone m = m.vs
first_vs directive.InitiateCheck m = m.vs
first_vs directive.InitiateUnlock m = m.vs
first_vs (directive.InitiateSetVr v) m = v
first_vs directive.Terminate m = m.vs
first_vs (directive.SetVs v) m = m.vs
first_vs (directive.SetK k) m = m.vs
first_vs (directive.SetT1 t1) m = m.vs
first_vs (directive.SetLimit limit) m = m.vs

-- the BC frame of a directive
abbrev pub control_of : Directive → Option Frame
control_of directive.InitiateNone = None
control_of directive.InitiateCheck = None
control_of directive.InitiateUnlock = Some frame.Unlock
control_of (directive.InitiateSetVr v) = Some (frame.SetVr v)
control_of directive.Terminate = None
control_of (directive.SetVs v) = None
control_of (directive.SetK k) = None
control_of (directive.SetT1 t1) = None
control_of (directive.SetLimit limit) = None

-- the state after an initiation: without check S1, with check S4, else S5
abbrev pub initiated_state : Directive → FopState
initiated_state directive.InitiateNone = Active
initiated_state directive.InitiateCheck = InitialisingWithoutBc
initiated_state directive.InitiateUnlock = InitialisingWithBc
initiated_state (directive.InitiateSetVr v) = InitialisingWithBc
initiated_state directive.Terminate = Initial
initiated_state (directive.SetVs v) = Initial
initiated_state (directive.SetK k) = Initial
initiated_state (directive.SetT1 t1) = Initial
initiated_state (directive.SetLimit limit) = Initial

-- An initiation: from S6, with nothing out and V(S) = NN(R); its BC frame is sent; without check the service begins at
-- once.
pub record Initiates (directive : Directive) (old new : Machine) (out : Out) : Type 0 where
  pub initial : old.state ≡ Initial
  pub state : new.state ≡ initiated_state directive
  pub vs : new.vs ≡ first_vs directive old
  pub nn : new.nn ≡ new.vs
  pub sent : new.sent ≡ []
  pub waiting : new.waiting ≡ None
  pub control : new.control ≡ control_of directive
  pub frames : out.frames ≡ option_list (control_of directive)
  pub indications : out.indications ≡ (if is_taking new.state then indication.Started ∷ [] else [])
