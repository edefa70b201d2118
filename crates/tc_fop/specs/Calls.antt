-- What each call of the FOP gives: a refusal, or the actions that are carried out.
use Rattle.std.specs.Prelude.{◌≡◌, ℕ, ◌==◌, nat_lt, Bool, true, false, if◌then◌else◌, is_some, Option, Some, None, Ok, Err, Result, List, [], ◌∷◌}
use Rattle.tc_types.specs.declared.refusals.Refusal.{Refusal}
use Rattle.tc_types.specs.declared.refusals.Refusal.TheVariants.{WaitQueueFull, ServiceNotActive, BadDirective, Memory}
use Rattle.tc_types.specs.declared.link.frames.Frame.TheVariants as frame
use Rattle.tc_farm.specs.declared.clcws.Clcw.{Clcw}
use Rattle.tc_fop.specs.declared.signals.FopState.{FopState}
use Rattle.tc_fop.specs.declared.signals.FopState.TheVariants.{Active, RetransmitWithoutWait, RetransmitWithWait, InitialisingWithoutBc, InitialisingWithBc, Initial}
use Rattle.tc_fop.specs.declared.signals.AlertKind.TheVariants as alert
use Rattle.tc_types.specs.declared.link.directives.Directive.{Directive}
use Rattle.tc_types.specs.declared.link.directives.Directive.TheVariants as directive
use Rattle.tc_fop.specs.Machine.{Machine, Waiting, Out, Action, Alert, StartTimer, LowerTimer, SendControl, Begin, To, Wait, Initiate, SetVsAlone, SetVsAndNn, SetKTo, SetT1To, SetLimitTo, after, output}
use Rattle.tc_fop.specs.Rows.{row_of}
use Rattle.tc_fop.specs.Cells.{look, cell, timer_ended, timer_ended_at_limit}

-- a refusal, or a list of actions
abbrev pub Given : Type 0
Given = Result (List Action) Refusal

-- a FOP at the start: S6, V(S) = NN(R) = 0, count 1, no timer
abbrev pub new_machine : ℕ → ℕ → ℕ → Machine
new_machine k t1 limit = record {
  state = Initial;
  vs = 0;
  nn = 0;
  sent = [];
  waiting = None;
  control = None;
  t1 = t1;
  timer = 0;
  limit = limit;
  count = 1;
  k = k;
}

-- the service takes requests in S1, S2 and S3
abbrev pub is_taking : FopState → Bool
is_taking Active = true
is_taking RetransmitWithoutWait = true
is_taking RetransmitWithWait = true
is_taking InitialisingWithoutBc = false
is_taking InitialisingWithBc = false
is_taking Initial = false

-- in S1 and S2 the look follows an offer
abbrev pub look_in : FopState → List Action
look_in Active = look
look_in RetransmitWithoutWait = look
look_in RetransmitWithWait = []
look_in InitialisingWithoutBc = []
look_in InitialisingWithBc = []
look_in Initial = []

abbrev pub offered : Machine → Waiting → Given
offered m w =
    if is_taking m.state then (if is_some m.waiting then Err WaitQueueFull else Ok (Wait w ∷ look_in m.state))
    else Err ServiceNotActive

abbrev pub is_initial : FopState → Bool
is_initial Active = false
is_initial RetransmitWithoutWait = false
is_initial RetransmitWithWait = false
is_initial InitialisingWithoutBc = false
is_initial InitialisingWithBc = false
is_initial Initial = true

-- in S6 alone
abbrev pub in_initial : Machine → List Action → Given
in_initial m actions = if is_initial m.state then Ok actions else Err BadDirective

-- a number of 0 is no setting
abbrev pub setting : ℕ → Action → Given
setting n action = if n == 0 then Err BadDirective else Ok (action ∷ [])

abbrev pub directed : Machine → Directive → Given
directed m directive.InitiateNone = in_initial m (Initiate None ∷ To Active ∷ Begin ∷ [])
directed m directive.InitiateCheck = in_initial m (Initiate None ∷ StartTimer ∷ To InitialisingWithoutBc ∷ [])
directed m directive.InitiateUnlock =
    in_initial m (Initiate (Some frame.Unlock) ∷ SendControl ∷ StartTimer ∷ To InitialisingWithBc ∷ [])
directed m (directive.InitiateSetVr v) =
    in_initial m (SetVsAlone v ∷ Initiate (Some (frame.SetVr v)) ∷ SendControl ∷ StartTimer ∷ To InitialisingWithBc ∷ [])
directed m directive.Terminate = Ok (if is_initial m.state then [] else Alert alert.Term ∷ [])
directed m (directive.SetVs v) = in_initial m (SetVsAndNn v ∷ [])
directed m (directive.SetK k) = setting k (SetKTo k)
directed m (directive.SetT1 t1) = setting t1 (SetT1To t1)
directed m (directive.SetLimit limit) = setting limit (SetLimitTo limit)

-- at a control word, or at one that is not valid
abbrev pub reported : Machine → Option Clcw → Given
reported m word = Ok (cell (row_of m word) m.state)

-- what follows where the timer is at its last tick
abbrev pub at_last_tick : Machine → List Action
at_last_tick m = if nat_lt m.count m.limit then timer_ended m.state else timer_ended_at_limit m.state

abbrev pub ticked : Machine → Given
ticked m =
    if m.timer == 0 then Ok []
    else if m.timer == 1 then Ok (LowerTimer ∷ at_last_tick m)
    else Ok (LowerTimer ∷ [])

-- What a call answers: as given, or want of memory where it was not refused; an error leaves the machine.
abbrev pub Answers : Given → Machine → Machine → Result Out Refusal → Type 0
Answers (Ok actions) old new (Ok out) = (new ≡ after actions old) × (out ≡ output actions old)
Answers (Ok actions) old new (Err refused) = (refused ≡ Memory) × (new ≡ old)
Answers (Err refusal) old new (Ok out) = ⊥
Answers (Err refusal) old new (Err refused) = (refused ≡ refusal) × (new ≡ old)
