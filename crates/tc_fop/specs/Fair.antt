-- The alerts of a service whose windows fit: by its timer, by its limit, and by its end.
use Rattle.std.specs.Prelude.{◌≡◌, ◌<◌, ◌≤◌, Bool, true, false, not, if◌then◌else◌, Ok, Err, List, [], ◌∷◌}
use Rattle.std.specs.List.{flat_map, list_all}
use Rattle.tc_fop.specs.Calls.{Given, is_taking, is_initial}
use Rattle.tc_farm.specs.declared.clcws.Clcw.{Clcw}
use Rattle.tc_farm.specs.Farm.{distance}
use Rattle.tc_fop.specs.declared.signals.AlertKind.{AlertKind}
use Rattle.tc_fop.specs.declared.signals.AlertKind.TheVariants as alert
use Rattle.tc_fop.specs.declared.signals.FopState.{FopState}
use Rattle.tc_fop.specs.declared.signals.FopState.TheVariants.{Active, RetransmitWithoutWait, RetransmitWithWait, InitialisingWithoutBc, InitialisingWithBc, Initial}
use Rattle.tc_fop.specs.declared.signals.Indication.{Indication}
use Rattle.tc_fop.specs.declared.signals.Indication.TheVariants as indication
use Rattle.tc_fop.specs.Machine.{Machine, Out, Action, Alert, Remove, To, Initiate, SetVsAlone, SetVsAndNn}

-- the alerts that an output tells, in order
abbrev pub alert_by : Indication → List AlertKind
alert_by (indication.Sent n) = []
alert_by (indication.Confirmed n) = []
alert_by (indication.GivenBack n) = []
alert_by (indication.InDoubt n) = []
alert_by (indication.Alert kind) = kind ∷ []
alert_by indication.Started = []

abbrev pub alerts_in : Out → List AlertKind
alerts_in out = flat_map alert_by out.indications

-- S2 and S3
abbrev pub is_retransmitting : FopState → Bool
is_retransmitting Active = false
is_retransmitting RetransmitWithoutWait = true
is_retransmitting RetransmitWithWait = true
is_retransmitting InitialisingWithoutBc = false
is_retransmitting InitialisingWithBc = false
is_retransmitting Initial = false

-- A control word that fits a service in S1 to S3: no Lockout; Wait only with Retransmit; it acknowledges no more than is
-- out, and not all where it asks for a frame again; and where frames are sent again and it acknowledges none, it asks.
pub record IsHeardFairly (m : Machine) (word : Clcw) : Type 0 where
  pub open_farm : word.lockout ≡ false
  pub asks : word.wait ≡ true → word.retransmit ≡ true
  pub near : distance word.report m.nn ≤ distance m.vs m.nn
  pub missing : word.retransmit ≡ true → distance word.report m.nn < distance m.vs m.nn
  pub still : is_retransmitting m.state ≡ true → distance word.report m.nn ≡ 0 → word.retransmit ≡ true

-- S4
abbrev pub is_checking : FopState → Bool
is_checking Active = false
is_checking RetransmitWithoutWait = false
is_checking RetransmitWithWait = false
is_checking InitialisingWithoutBc = true
is_checking InitialisingWithBc = false
is_checking Initial = false

-- Which alerts may come in a state of the FOP: T1 and TERM in each service, LIMIT in S1 to S3; and in S4 of a start that
-- was not level also NN(R) and SYNCH, which say that the two sides did not agree.
abbrev pub may_alert : Bool → FopState → AlertKind → Bool
may_alert level state alert.Limit = is_taking state
may_alert level state alert.T1 = not (is_initial state)
may_alert level state alert.Lockout = false
may_alert level state alert.Synch = if level then false else is_checking state
may_alert level state alert.NnR = if level then false else is_checking state
may_alert level state alert.Clcw = false
may_alert level state alert.Term = not (is_initial state)

-- an action that is no alert, or one that may come
abbrev pub may_come : Bool → FopState → Action → Bool
may_come level state (Alert kind) = may_alert level state kind
may_come level state action = true

abbrev pub AllMayCome : Bool → FopState → Given → Type 0
AllMayCome level state (Ok actions) = list_all (may_come level state) actions ≡ true
AllMayCome level state (Err refusal) = Unit {0}

-- an action that leaves NN(R), and leaves the state or ends the service
abbrev pub leaves_standing : Action → Bool
leaves_standing (Remove d) = false
leaves_standing (To state) = false
leaves_standing (Initiate control) = false
leaves_standing (SetVsAlone v) = false
leaves_standing (SetVsAndNn v) = false
leaves_standing action = true

abbrev pub AllLeaveStanding : Given → Type 0
AllLeaveStanding (Ok actions) = list_all leaves_standing actions ≡ true
AllLeaveStanding (Err refusal) = Unit {0}
