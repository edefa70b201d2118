-- The table of FOP-1 in this desk's profile: for each row and state the actions. A row without To keeps its state.
-- An empty list is 'ignore'; S6 ignores every row.
use Rattle.std.specs.Prelude.{ℕ, ◌==◌, if◌then◌else◌, Bool, true, false, List, [], ◌∷◌, ◌++◌}
use Rattle.tc_fop.specs.declared.signals.FopState.{FopState}
use Rattle.tc_fop.specs.declared.signals.FopState.TheVariants.{Active, RetransmitWithoutWait, RetransmitWithWait, InitialisingWithoutBc, InitialisingWithBc, Initial}
use Rattle.tc_fop.specs.declared.signals.AlertKind.{AlertKind}
use Rattle.tc_fop.specs.declared.signals.AlertKind.TheVariants as alert
use Rattle.tc_fop.specs.Machine.{Action, Remove, InitiateRetransmission, Resend, Transmit, Alert, StartTimer, CancelTimer, CountOne, SendControl, DropControl, Begin, To}
use Rattle.tc_fop.specs.declared.fop_rows.FopRow.{FopRow}
use Rattle.tc_fop.specs.declared.fop_rows.FopRow.TheVariants.{P1, P2, P3, P4, P5, P6, P7, P8, P9, P10, P11, P12, P13, P14, P15, P16}

-- send what is flagged, then transmit what waits
abbrev pub look : List Action
look = Resend ∷ Transmit ∷ []

-- a word alone in capitals is that alert
abbrev pub alerts : AlertKind → List Action
alerts kind = Alert kind ∷ []

-- remove where there is something to remove
abbrev pub remove_some : ℕ → List Action
remove_some d = if d == 0 then [] else Remove d ∷ []

-- a cell that cannot occur: in S4 and S5 V(S) is NN(R), so that w is 0
abbrev pub cannot_occur : List Action
cannot_occur = []

abbrev pub cell : FopRow → FopState → List Action
cell row Initial = []
cell P1 Active = []
cell P1 RetransmitWithoutWait = alerts alert.Synch
cell P1 RetransmitWithWait = alerts alert.Synch
cell P1 InitialisingWithoutBc = CancelTimer ∷ To Active ∷ Begin ∷ []
cell P1 InitialisingWithBc = CancelTimer ∷ DropControl ∷ To Active ∷ Begin ∷ []
cell (P2 d) Active = Remove d ∷ CancelTimer ∷ look
cell (P2 d) RetransmitWithoutWait = Remove d ∷ CancelTimer ∷ To Active ∷ look
cell (P2 d) RetransmitWithWait = Remove d ∷ CancelTimer ∷ To Active ∷ look
cell (P2 d) InitialisingWithoutBc = cannot_occur
cell (P2 d) InitialisingWithBc = cannot_occur
cell P3 Active = alerts alert.Clcw
cell P3 RetransmitWithoutWait = alerts alert.Clcw
cell P3 RetransmitWithWait = alerts alert.Clcw
cell P3 InitialisingWithoutBc = alerts alert.Clcw
cell P3 InitialisingWithBc = []
cell P4 Active = alerts alert.Synch
cell P4 RetransmitWithoutWait = alerts alert.Synch
cell P4 RetransmitWithWait = alerts alert.Synch
cell P4 InitialisingWithoutBc = alerts alert.Synch
cell P4 InitialisingWithBc = []
cell P5 Active = []
cell P5 RetransmitWithoutWait = alerts alert.Synch
cell P5 RetransmitWithWait = alerts alert.Synch
cell P5 InitialisingWithoutBc = cannot_occur
cell P5 InitialisingWithBc = cannot_occur
cell (P6 d) Active = Remove d ∷ look
cell (P6 d) RetransmitWithoutWait = Remove d ∷ To Active ∷ look
cell (P6 d) RetransmitWithWait = Remove d ∷ To Active ∷ look
cell (P6 d) InitialisingWithoutBc = cannot_occur
cell (P6 d) InitialisingWithBc = cannot_occur
cell P7 Active = alerts alert.Clcw
cell P7 RetransmitWithoutWait = alerts alert.Clcw
cell P7 RetransmitWithWait = alerts alert.Clcw
cell P7 InitialisingWithoutBc = cannot_occur
cell P7 InitialisingWithBc = cannot_occur
cell (P8 d) Active = remove_some d ++ alerts alert.Limit
cell (P8 d) RetransmitWithoutWait = remove_some d ++ alerts alert.Limit
cell (P8 d) RetransmitWithWait = remove_some d ++ alerts alert.Limit
cell (P8 d) InitialisingWithoutBc = cannot_occur
cell (P8 d) InitialisingWithBc = cannot_occur
cell (P9 d) Active = Remove d ∷ InitiateRetransmission ∷ To RetransmitWithoutWait ∷ look
cell (P9 d) RetransmitWithoutWait = Remove d ∷ InitiateRetransmission ∷ To RetransmitWithoutWait ∷ look
cell (P9 d) RetransmitWithWait = Remove d ∷ InitiateRetransmission ∷ To RetransmitWithoutWait ∷ look
cell (P9 d) InitialisingWithoutBc = cannot_occur
cell (P9 d) InitialisingWithBc = cannot_occur
cell (P10 d) Active = Remove d ∷ To RetransmitWithWait ∷ []
cell (P10 d) RetransmitWithoutWait = Remove d ∷ To RetransmitWithWait ∷ []
cell (P10 d) RetransmitWithWait = Remove d ∷ To RetransmitWithWait ∷ []
cell (P10 d) InitialisingWithoutBc = cannot_occur
cell (P10 d) InitialisingWithBc = cannot_occur
cell P11 Active = InitiateRetransmission ∷ To RetransmitWithoutWait ∷ look
cell P11 RetransmitWithoutWait = []
cell P11 RetransmitWithWait = InitiateRetransmission ∷ To RetransmitWithoutWait ∷ look
cell P11 InitialisingWithoutBc = cannot_occur
cell P11 InitialisingWithBc = cannot_occur
cell P12 Active = To RetransmitWithWait ∷ []
cell P12 RetransmitWithoutWait = To RetransmitWithWait ∷ []
cell P12 RetransmitWithWait = []
cell P12 InitialisingWithoutBc = cannot_occur
cell P12 InitialisingWithBc = cannot_occur
cell P13 Active = To RetransmitWithoutWait ∷ []
cell P13 RetransmitWithoutWait = []
cell P13 RetransmitWithWait = To RetransmitWithoutWait ∷ []
cell P13 InitialisingWithoutBc = cannot_occur
cell P13 InitialisingWithBc = cannot_occur
cell P14 Active = alerts alert.NnR
cell P14 RetransmitWithoutWait = alerts alert.NnR
cell P14 RetransmitWithWait = alerts alert.NnR
cell P14 InitialisingWithoutBc = alerts alert.NnR
cell P14 InitialisingWithBc = []
cell P15 Active = alerts alert.Lockout
cell P15 RetransmitWithoutWait = alerts alert.Lockout
cell P15 RetransmitWithWait = alerts alert.Lockout
cell P15 InitialisingWithoutBc = alerts alert.Lockout
cell P15 InitialisingWithBc = []
cell P16 Active = alerts alert.Clcw
cell P16 RetransmitWithoutWait = alerts alert.Clcw
cell P16 RetransmitWithWait = alerts alert.Clcw
cell P16 InitialisingWithoutBc = alerts alert.Clcw
cell P16 InitialisingWithBc = alerts alert.Clcw

-- P17: the timer ended and the count is below the limit
abbrev pub timer_ended : FopState → List Action
timer_ended Active = InitiateRetransmission ∷ look
timer_ended RetransmitWithoutWait = InitiateRetransmission ∷ look
timer_ended RetransmitWithWait = []
timer_ended InitialisingWithoutBc = alerts alert.T1
timer_ended InitialisingWithBc = SendControl ∷ CountOne ∷ StartTimer ∷ []
timer_ended Initial = []

-- P18: the timer ended and the count is at the limit
abbrev pub timer_ended_at_limit : FopState → List Action
timer_ended_at_limit Active = alerts alert.T1
timer_ended_at_limit RetransmitWithoutWait = alerts alert.T1
timer_ended_at_limit RetransmitWithWait = alerts alert.T1
timer_ended_at_limit InitialisingWithoutBc = alerts alert.T1
timer_ended_at_limit InitialisingWithBc = alerts alert.T1
timer_ended_at_limit Initial = []

-- whether nothing is done at a word of this row
abbrev pub does_nothing : List Action → Bool
does_nothing [] = true
does_nothing (first ∷ others) = false

abbrev pub is_ignored : FopRow → FopState → Bool
is_ignored row state = does_nothing (cell row state)
