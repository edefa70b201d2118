-- What one call makes of the service: by row and state, then by call.
use Rattle.std.proofs.Common.{◌≡◌, ℕ, ◌+◌, ◌-◌, ◌%◌, ◌<◌, ◌≤◌, ◌==◌, Bool, true, false, if◌then◌else◌, is_some, inl, inr, Option, Some, None, Ok, Err, List, [], ◌∷◌, ◌++◌, length, refl, ◌∙◌, ap, arith}
use Rattle.std.proofs.lemmas.Bool.{true≢false, false≢true}
use Rattle.std.proofs.lemmas.List.{append-nil}
use Rattle.tc_types.specs.declared.refusals.Refusal.TheVariants.{WaitQueueFull, ServiceNotActive}
use Rattle.tc_farm.specs.declared.clcws.Clcw.{Clcw}
use Rattle.tc_farm.specs.Farm.{distance}
use Rattle.tc_fop.specs.declared.fop_rows.FopRow.{FopRow}
use Rattle.tc_fop.specs.declared.fop_rows.FopRow.TheVariants.{P1, P2, P3, P4, P5, P6, P7, P8, P9, P10, P11, P12, P13, P14, P15, P16}
use Rattle.tc_fop.specs.declared.signals.AlertKind.{AlertKind}
use Rattle.tc_fop.specs.declared.signals.AlertKind.TheVariants as alert
use Rattle.tc_types.specs.declared.link.directives.Directive.{Directive}
use Rattle.tc_types.specs.declared.link.directives.Directive.TheVariants as directive
use Rattle.tc_fop.specs.declared.signals.FopState.{FopState}
use Rattle.tc_fop.specs.declared.signals.FopState.TheVariants.{Active, RetransmitWithoutWait, RetransmitWithWait, InitialisingWithoutBc, InitialisingWithBc, Initial}
use Rattle.tc_fop.specs.Machine.{Machine, Waiting, Out, Action, Remove, InitiateRetransmission, StartTimer, CancelTimer, LowerTimer, CountOne, SendControl, DropControl, Begin, To, Wait, SetVsAndNn, SetKTo, SetT1To, SetLimitTo, nothing, change, after, option_list, given_back}
use Rattle.tc_fop.specs.Rows.{Seen, row_seen, seen_in, row_of}
use Rattle.tc_fop.specs.Cells.{look, alerts, cell, timer_ended, timer_ended_at_limit}
use Rattle.tc_fop.specs.Calls.{Given, Answers, is_taking, is_initial, look_in, offered, directed, reported, ticked}
use Rattle.tc_fop.specs.Standing.{IsFop, is_starting}
use Rattle.tc_fop.specs.Requests.{acknowledged}
use Rattle.tc_fop.specs.Moves.{Advances, Opens, MovesIn, is_initiation}
use Rattle.tc_fop.proofs.TableLemmas.{by_state, of_tick, of_initial, of_setting}
use Rattle.tc_fop.proofs.MoveLemmas.{Confirmable, none_confirmable, removed_remains, removed_looks, flagged_looks, front_of, looked, unlooked, stopped}
use Rattle.tc_fop.proofs.OpenLemmas.{IsLevel, starts_on, given_up, begun, rested}

-- a call: what it heard, the machine before and after, and the output
pub record Call : Type 0 where
  pub heard : Option Clcw
  pub machine : Machine
  pub next : Machine
  pub out : Out
  pub fop : IsFop machine

-- it carried out these actions
abbrev pub Did : Call → List Action → Type 0
Did c todo = Answers (Ok todo) c.machine c.next (Ok c.out)

-- then this is what it made of the service in this state
abbrev pub Moved : Call → FopState → List Action → Type 0
Moved c s todo = c.machine.state ≡ s → Did c todo → MovesIn s c.heard c.machine c.next c.out

-- the same in S1 to S3
abbrev pub Advanced : Call → FopState → List Action → Type 0
Advanced c s todo = is_taking s ≡ true → c.machine.state ≡ s → Did c todo → Advances (acknowledged c.machine c.heard) c.machine c.next c.out

-- as many as the report value acknowledges, and no more than are out
abbrev pub Acknowledges : ℕ → Machine → Option Clcw → Type 0
Acknowledges d m heard = (d ≡ acknowledged m heard) × (d ≤ distance m.vs m.nn)

-- what a row says of d and w
abbrev Says : FopRow → ℕ → ℕ → Type 0
Says P1 d w = d ≡ 0
Says (P2 x) d w = (x ≡ d) × (x ≤ w)
Says (P6 x) d w = (x ≡ d) × (x ≤ w)
Says (P8 x) d w = (x ≡ d) × (x ≤ w)
Says (P9 x) d w = (x ≡ d) × (x ≤ w)
Says (P10 x) d w = (x ≡ d) × (x ≤ w)
Says row d w = Unit {0}

row_says : (s : Seen) → Says (row_seen s) s.d s.w
row_says s = grind arith

-- the same of what was heard
abbrev Allows : FopRow → Machine → Option Clcw → Type 0
Allows P1 m heard = IsLevel heard m
Allows (P2 d) m heard = Acknowledges d m heard
Allows (P6 d) m heard = Acknowledges d m heard
Allows (P8 d) m heard = Acknowledges d m heard
Allows (P9 d) m heard = Acknowledges d m heard
Allows (P10 d) m heard = Acknowledges d m heard
Allows row m heard = Unit {0}

allows : (m : Machine) (word : Clcw) (row : FopRow) → Says row (distance word.report m.nn) (distance m.vs m.nn) → Allows row m (Some word)
allows m word P1 t = (word, refl, t)
allows m word (P2 d) t = t
allows m word (P6 d) t = t
allows m word (P8 d) t = t
allows m word (P9 d) t = t
allows m word (P10 d) t = t
allows m word row t = tt

row_allows : (m : Machine) (heard : Option Clcw) → Allows (row_of m heard) m heard
row_allows m None = tt
row_allows m (Some word) = allows m word (row_of m (Some word)) (row_says (seen_in m word))

-- V(S) stands behind all that is out
confirmable : (d : ℕ) (c : Call) → is_taking c.machine.state ≡ true → Acknowledges d c.machine c.heard → Confirmable (acknowledged c.machine c.heard) d c.machine
confirmable d c t a =
    let next : c.machine.vs ≡ (c.machine.nn + length c.machine.sent) % 256 = c.fop.next t in
    let most : length c.machine.sent ≤ 255 = c.fop.few in
    let small : c.machine.nn < 256 = c.fop.nn in
    let within : d ≤ (c.machine.vs + 256 - c.machine.nn) % 256 = a.1 in
    record { few = omega (arith, next, most, small, within); which = inr a.0 }

nn_stays : (c : Call) → c.machine.nn ≡ (c.machine.nn + 0) % 256
nn_stays c = let small : c.machine.nn < 256 = c.fop.nn in omega (arith, small)

taking : (c : Call) (s : FopState) → is_taking s ≡ true → c.machine.state ≡ s → is_taking c.machine.state ≡ true
taking c s t q = ap (λ x. is_taking x) q ∙ t

-- nothing that the service shows is changed
record Quiet (m y : Machine) : Type 0 where
  pub state : y.state ≡ m.state
  pub vs : y.vs ≡ m.vs
  pub nn : y.nn ≡ m.nn
  pub sent : y.sent ≡ m.sent
  pub control : y.control ≡ m.control

quiet_taking : (c : Call) (y : Machine) → Quiet c.machine y → (s : FopState) → is_taking s ≡ true → c.machine.state ≡ s → c.next ≡ y → c.out ≡ nothing → Advances (acknowledged c.machine c.heard) c.machine c.next c.out
quiet_taking c y u s t q e o =
    unlooked (acknowledged c.machine c.heard) 0 c.machine y c.next c.out c.fop (none_confirmable (acknowledged c.machine c.heard) c.machine)
    (removed_remains 0 c.machine y u.vs (u.nn ∙ nn_stays c) u.sent (ap (λ x. is_taking x) u.state ∙ taking c s t q)) e o

quiet_starting : (c : Call) (y : Machine) → Quiet c.machine y → (s : FopState) → is_starting s ≡ true → c.machine.state ≡ s → c.next ≡ y → c.out ≡ nothing → Opens c.heard c.machine c.next c.out
quiet_starting c y u s t q e o =
    starts_on c.heard [] c.machine y c.next c.out
    (record { starting = ap (λ x. is_starting x) q ∙ t; state = u.state; vs = u.vs; nn = u.nn; control = u.control }) (inl refl) e o

quiet : (c : Call) (y : Machine) → Quiet c.machine y → (s : FopState) → c.machine.state ≡ s → c.next ≡ y → c.out ≡ nothing → MovesIn s c.heard c.machine c.next c.out
quiet c y u s =
    by_state (λ s. c.machine.state ≡ s → c.next ≡ y → c.out ≡ nothing → MovesIn s c.heard c.machine c.next c.out)
    (quiet_taking c y u Active refl)
    (quiet_taking c y u RetransmitWithoutWait refl)
    (quiet_taking c y u RetransmitWithWait refl)
    (quiet_starting c y u InitialisingWithoutBc refl)
    (quiet_starting c y u InitialisingWithBc refl)
    (λ q e o. rested c.machine y c.next c.out q u.state e o) s

-- no action
idle : (c : Call) (s : FopState) → Moved c s []
idle c s q e = quiet c c.machine (record { state = refl; vs = refl; nn = refl; sent = refl; control = refl }) s q e.0 e.1

lowers : (c : Call) (s : FopState) → Moved c s (LowerTimer ∷ [])
lowers c s q e = quiet c (change LowerTimer c.machine) (record { state = refl; vs = refl; nn = refl; sent = refl; control = refl }) s q e.0 e.1

-- an alert
stops : (c : Call) (kind : AlertKind) (s : FopState) → Advanced c s (alerts kind)
stops c kind s t q e =
    stopped (acknowledged c.machine c.heard) 0 kind c.machine c.machine c.next c.out (none_confirmable (acknowledged c.machine c.heard) c.machine) e.0
    (e.1 ∙ ap (λ l. record { frames = []; indications = l }) (append-nil (given_back kind c.machine)))

stops_late : (c : Call) (kind : AlertKind) (s : FopState) → Advanced c s (LowerTimer ∷ alerts kind)
stops_late c kind s t q e =
    let y = change LowerTimer c.machine in
    stopped (acknowledged c.machine c.heard) 0 kind c.machine y c.next c.out (none_confirmable (acknowledged c.machine c.heard) c.machine) e.0
    (e.1 ∙ ap (λ l. record { frames = []; indications = l }) (append-nil (given_back kind y)))

gives_up : (c : Call) (kind : AlertKind) → Did c (alerts kind) → Opens c.heard c.machine c.next c.out
gives_up c kind e =
    given_up c.heard kind c.machine c.machine c.next c.out e.0
    (e.1 ∙ ap (λ l. record { frames = []; indications = l }) (append-nil (given_back kind c.machine)))

gives_up_late : (c : Call) (kind : AlertKind) → Did c (LowerTimer ∷ alerts kind) → Opens c.heard c.machine c.next c.out
gives_up_late c kind e =
    let y = change LowerTimer c.machine in
    given_up c.heard kind c.machine y c.next c.out e.0
    (e.1 ∙ ap (λ l. record { frames = []; indications = l }) (append-nil (given_back kind y)))

-- something is removed at the limit, or nothing
limits : (c : Call) (none : Bool) (d : ℕ) → Acknowledges d c.machine c.heard → (s : FopState) → Advanced c s ((if none then [] else Remove d ∷ []) ++ alerts alert.Limit)
limits c true d a s t q e = stops c alert.Limit s t q e
limits c false d a s t q e =
    let y = change (Remove d) c.machine in
    stopped (acknowledged c.machine c.heard) d alert.Limit c.machine y c.next c.out (confirmable d c (taking c s t q) a) e.0
    (e.1 ∙ ap (λ l. record { frames = []; indications = front_of d c.machine ++ l }) (append-nil (given_back alert.Limit y)))

-- removed are so many, and then comes the look, in the same state or in S1
looks_cancelled : (c : Call) (d : ℕ) → Acknowledges d c.machine c.heard → (s : FopState) → Advanced c s (Remove d ∷ CancelTimer ∷ look)
looks_cancelled c d a s t q e =
    let y = after (Remove d ∷ CancelTimer ∷ []) c.machine in
    looked (acknowledged c.machine c.heard) d false c.machine y c.next c.out c.fop (taking c s t q) (confirmable d c (taking c s t q) a)
    (removed_looks d c.machine y c.fop refl refl refl refl (taking c s t q)) e.0 e.1

looks_active_cancelled : (c : Call) (d : ℕ) → Acknowledges d c.machine c.heard → (s : FopState) → Advanced c s (Remove d ∷ CancelTimer ∷ To Active ∷ look)
looks_active_cancelled c d a s t q e =
    let y = after (Remove d ∷ CancelTimer ∷ To Active ∷ []) c.machine in
    looked (acknowledged c.machine c.heard) d false c.machine y c.next c.out c.fop (taking c s t q) (confirmable d c (taking c s t q) a)
    (removed_looks d c.machine y c.fop refl refl refl refl refl) e.0 e.1

looks : (c : Call) (d : ℕ) → Acknowledges d c.machine c.heard → (s : FopState) → Advanced c s (Remove d ∷ look)
looks c d a s t q e =
    let y = change (Remove d) c.machine in
    looked (acknowledged c.machine c.heard) d false c.machine y c.next c.out c.fop (taking c s t q) (confirmable d c (taking c s t q) a)
    (removed_looks d c.machine y c.fop refl refl refl refl (taking c s t q)) e.0 e.1

looks_active : (c : Call) (d : ℕ) → Acknowledges d c.machine c.heard → (s : FopState) → Advanced c s (Remove d ∷ To Active ∷ look)
looks_active c d a s t q e =
    let y = after (Remove d ∷ To Active ∷ []) c.machine in
    looked (acknowledged c.machine c.heard) d false c.machine y c.next c.out c.fop (taking c s t q) (confirmable d c (taking c s t q) a)
    (removed_looks d c.machine y c.fop refl refl refl refl refl) e.0 e.1

-- removed are so many, and all others are sent again
repeats : (c : Call) (d : ℕ) → Acknowledges d c.machine c.heard → (s : FopState) → Advanced c s (Remove d ∷ InitiateRetransmission ∷ To RetransmitWithoutWait ∷ look)
repeats c d a s t q e =
    let y = after (Remove d ∷ InitiateRetransmission ∷ To RetransmitWithoutWait ∷ []) c.machine in
    looked (acknowledged c.machine c.heard) d true c.machine y c.next c.out c.fop (taking c s t q) (confirmable d c (taking c s t q) a)
    (flagged_looks d c.machine y refl refl refl refl refl) e.0 e.1

-- removed are so many, and it waits
waits : (c : Call) (d : ℕ) → Acknowledges d c.machine c.heard → (s : FopState) → Advanced c s (Remove d ∷ To RetransmitWithWait ∷ [])
waits c d a s t q e =
    let y = after (Remove d ∷ To RetransmitWithWait ∷ []) c.machine in
    unlooked (acknowledged c.machine c.heard) d c.machine y c.next c.out c.fop (confirmable d c (taking c s t q) a)
    (removed_remains d c.machine y refl refl refl refl) e.0
    (e.1 ∙ ap (λ l. record { frames = []; indications = l }) (append-nil (front_of d c.machine)))

-- all are sent again, at a control word and when the timer ends
repeats_all : (c : Call) (s : FopState) → Advanced c s (InitiateRetransmission ∷ To RetransmitWithoutWait ∷ look)
repeats_all c s t q e =
    let y = after (InitiateRetransmission ∷ To RetransmitWithoutWait ∷ []) c.machine in
    looked (acknowledged c.machine c.heard) 0 true c.machine y c.next c.out c.fop (taking c s t q) (none_confirmable (acknowledged c.machine c.heard) c.machine)
    (flagged_looks 0 c.machine y refl (nn_stays c) refl refl refl) e.0 e.1

repeats_late : (c : Call) (s : FopState) → Advanced c s (LowerTimer ∷ InitiateRetransmission ∷ look)
repeats_late c s t q e =
    let y = after (LowerTimer ∷ InitiateRetransmission ∷ []) c.machine in
    looked (acknowledged c.machine c.heard) 0 true c.machine y c.next c.out c.fop (taking c s t q) (none_confirmable (acknowledged c.machine c.heard) c.machine)
    (flagged_looks 0 c.machine y refl (nn_stays c) refl refl (taking c s t q)) e.0 e.1

-- only the state changes
turns : (c : Call) (to : FopState) → is_taking to ≡ true → (s : FopState) → Advanced c s (To to ∷ [])
turns c to good s t q e =
    let y = change (To to) c.machine in
    unlooked (acknowledged c.machine c.heard) 0 c.machine y c.next c.out c.fop (none_confirmable (acknowledged c.machine c.heard) c.machine)
    (removed_remains 0 c.machine y refl (nn_stays c) refl good) e.0 e.1

-- a request waits, and is looked at or not
offers_look : (c : Call) (w : Waiting) (s : FopState) → Advanced c s (Wait w ∷ look)
offers_look c w s t q e =
    let y = change (Wait w) c.machine in
    looked (acknowledged c.machine c.heard) 0 false c.machine y c.next c.out c.fop (taking c s t q) (none_confirmable (acknowledged c.machine c.heard) c.machine)
    (removed_looks 0 c.machine y c.fop refl (nn_stays c) refl refl (taking c s t q)) e.0 e.1

offers_wait : (c : Call) (w : Waiting) (s : FopState) → Advanced c s (Wait w ∷ [])
offers_wait c w s t q e =
    let y = change (Wait w) c.machine in
    unlooked (acknowledged c.machine c.heard) 0 c.machine y c.next c.out c.fop (none_confirmable (acknowledged c.machine c.heard) c.machine)
    (removed_remains 0 c.machine y refl (nn_stays c) refl (taking c s t q)) e.0 e.1

-- the service begins, from S4 and from S5
begins : (c : Call) → IsLevel c.heard c.machine → Moved c InitialisingWithoutBc (CancelTimer ∷ To Active ∷ Begin ∷ [])
begins c level q e =
    let y = after (CancelTimer ∷ To Active ∷ Begin ∷ []) c.machine in
    begun c.heard c.machine y c.next c.out level refl refl refl (c.fop.no_sent (ap (λ s. is_taking s) q)) e.0 e.1

begins_dropped : (c : Call) → IsLevel c.heard c.machine → Moved c InitialisingWithBc (CancelTimer ∷ DropControl ∷ To Active ∷ Begin ∷ [])
begins_dropped c level q e =
    let y = after (CancelTimer ∷ DropControl ∷ To Active ∷ Begin ∷ []) c.machine in
    begun c.heard c.machine y c.next c.out level refl refl refl (c.fop.no_sent (ap (λ s. is_taking s) q)) e.0 e.1

-- the BC frame is sent again
controls : (c : Call) → Moved c InitialisingWithBc (LowerTimer ∷ SendControl ∷ CountOne ∷ StartTimer ∷ [])
controls c q e =
    let y = after (LowerTimer ∷ SendControl ∷ CountOne ∷ StartTimer ∷ []) c.machine in
    starts_on c.heard (option_list c.machine.control) c.machine y c.next c.out
    (record { starting = ap (λ s. is_starting s) q; state = refl; vs = refl; nn = refl; control = refl }) (inr refl) e.0
    (e.1 ∙ ap (λ l. record { frames = l; indications = [] }) (append-nil (option_list c.machine.control)))

cell_moves : (c : Call) (row : FopRow) → Allows row c.machine c.heard → (s : FopState) → Moved c s (cell row s)
cell_moves c P1 a s = by_state (λ t. Moved c t (cell P1 t)) (idle c Active) (stops c alert.Synch RetransmitWithoutWait refl) (stops c alert.Synch RetransmitWithWait refl) (begins c a) (begins_dropped c a) (idle c Initial) s
cell_moves c (P2 d) a s = by_state (λ t. Moved c t (cell (P2 d) t)) (looks_cancelled c d a Active refl) (looks_active_cancelled c d a RetransmitWithoutWait refl) (looks_active_cancelled c d a RetransmitWithWait refl) (idle c InitialisingWithoutBc) (idle c InitialisingWithBc) (idle c Initial) s
cell_moves c P3 a s = by_state (λ t. Moved c t (cell P3 t)) (stops c alert.Clcw Active refl) (stops c alert.Clcw RetransmitWithoutWait refl) (stops c alert.Clcw RetransmitWithWait refl) (λ q e. gives_up c alert.Clcw e) (idle c InitialisingWithBc) (idle c Initial) s
cell_moves c P4 a s = by_state (λ t. Moved c t (cell P4 t)) (stops c alert.Synch Active refl) (stops c alert.Synch RetransmitWithoutWait refl) (stops c alert.Synch RetransmitWithWait refl) (λ q e. gives_up c alert.Synch e) (idle c InitialisingWithBc) (idle c Initial) s
cell_moves c P5 a s = by_state (λ t. Moved c t (cell P5 t)) (idle c Active) (stops c alert.Synch RetransmitWithoutWait refl) (stops c alert.Synch RetransmitWithWait refl) (idle c InitialisingWithoutBc) (idle c InitialisingWithBc) (idle c Initial) s
cell_moves c (P6 d) a s = by_state (λ t. Moved c t (cell (P6 d) t)) (looks c d a Active refl) (looks_active c d a RetransmitWithoutWait refl) (looks_active c d a RetransmitWithWait refl) (idle c InitialisingWithoutBc) (idle c InitialisingWithBc) (idle c Initial) s
cell_moves c P7 a s = by_state (λ t. Moved c t (cell P7 t)) (stops c alert.Clcw Active refl) (stops c alert.Clcw RetransmitWithoutWait refl) (stops c alert.Clcw RetransmitWithWait refl) (idle c InitialisingWithoutBc) (idle c InitialisingWithBc) (idle c Initial) s
cell_moves c (P8 d) a s = by_state (λ t. Moved c t (cell (P8 d) t)) (limits c (d == 0) d a Active refl) (limits c (d == 0) d a RetransmitWithoutWait refl) (limits c (d == 0) d a RetransmitWithWait refl) (idle c InitialisingWithoutBc) (idle c InitialisingWithBc) (idle c Initial) s
cell_moves c (P9 d) a s = by_state (λ t. Moved c t (cell (P9 d) t)) (repeats c d a Active refl) (repeats c d a RetransmitWithoutWait refl) (repeats c d a RetransmitWithWait refl) (idle c InitialisingWithoutBc) (idle c InitialisingWithBc) (idle c Initial) s
cell_moves c (P10 d) a s = by_state (λ t. Moved c t (cell (P10 d) t)) (waits c d a Active refl) (waits c d a RetransmitWithoutWait refl) (waits c d a RetransmitWithWait refl) (idle c InitialisingWithoutBc) (idle c InitialisingWithBc) (idle c Initial) s
cell_moves c P11 a s = by_state (λ t. Moved c t (cell P11 t)) (repeats_all c Active refl) (idle c RetransmitWithoutWait) (repeats_all c RetransmitWithWait refl) (idle c InitialisingWithoutBc) (idle c InitialisingWithBc) (idle c Initial) s
cell_moves c P12 a s = by_state (λ t. Moved c t (cell P12 t)) (turns c RetransmitWithWait refl Active refl) (turns c RetransmitWithWait refl RetransmitWithoutWait refl) (idle c RetransmitWithWait) (idle c InitialisingWithoutBc) (idle c InitialisingWithBc) (idle c Initial) s
cell_moves c P13 a s = by_state (λ t. Moved c t (cell P13 t)) (turns c RetransmitWithoutWait refl Active refl) (idle c RetransmitWithoutWait) (turns c RetransmitWithoutWait refl RetransmitWithWait refl) (idle c InitialisingWithoutBc) (idle c InitialisingWithBc) (idle c Initial) s
cell_moves c P14 a s = by_state (λ t. Moved c t (cell P14 t)) (stops c alert.NnR Active refl) (stops c alert.NnR RetransmitWithoutWait refl) (stops c alert.NnR RetransmitWithWait refl) (λ q e. gives_up c alert.NnR e) (idle c InitialisingWithBc) (idle c Initial) s
cell_moves c P15 a s = by_state (λ t. Moved c t (cell P15 t)) (stops c alert.Lockout Active refl) (stops c alert.Lockout RetransmitWithoutWait refl) (stops c alert.Lockout RetransmitWithWait refl) (λ q e. gives_up c alert.Lockout e) (idle c InitialisingWithBc) (idle c Initial) s
cell_moves c P16 a s = by_state (λ t. Moved c t (cell P16 t)) (stops c alert.Clcw Active refl) (stops c alert.Clcw RetransmitWithoutWait refl) (stops c alert.Clcw RetransmitWithWait refl) (λ q e. gives_up c alert.Clcw e) (λ q e. gives_up c alert.Clcw e) (idle c Initial) s

timer_moves : (c : Call) (s : FopState) → Moved c s (LowerTimer ∷ timer_ended s)
timer_moves c s = by_state (λ t. Moved c t (LowerTimer ∷ timer_ended t)) (repeats_late c Active refl) (repeats_late c RetransmitWithoutWait refl) (lowers c RetransmitWithWait) (λ q e. gives_up_late c alert.T1 e) (controls c) (lowers c Initial) s

limit_moves : (c : Call) (s : FopState) → Moved c s (LowerTimer ∷ timer_ended_at_limit s)
limit_moves c s = by_state (λ t. Moved c t (LowerTimer ∷ timer_ended_at_limit t)) (stops_late c alert.T1 Active refl) (stops_late c alert.T1 RetransmitWithoutWait refl) (stops_late c alert.T1 RetransmitWithWait refl) (λ q e. gives_up_late c alert.T1 e) (λ q e. gives_up_late c alert.T1 e) (lowers c Initial) s

-- offers are taken in S1 to S3 alone
offer_moves : (c : Call) (w : Waiting) (s : FopState) → is_taking s ≡ true → Moved c s (Wait w ∷ look_in s)
offer_moves c w s =
    by_state (λ t. is_taking t ≡ true → Moved c t (Wait w ∷ look_in t))
    (λ t. offers_look c w Active refl)
    (λ t. offers_look c w RetransmitWithoutWait refl)
    (λ t. offers_wait c w RetransmitWithWait refl)
    (λ t. absurd (false≢true t))
    (λ t. absurd (false≢true t))
    (λ t. absurd (false≢true t)) s

pub words_move : (m : Machine) (word : Option Clcw) (new : Machine) (out : Out) → IsFop m → IsFop new → Answers (reported m word) m new (Ok out) → MovesIn m.state word m new out
words_move m word new out h n e =
    cell_moves (record { heard = word; machine = m; next = new; out = out; fop = h }) (row_of m word) (row_allows m word) m.state refl e

pub ticks_move : (m new : Machine) (out : Out) → IsFop m → IsFop new → Answers (ticked m) m new (Ok out) → MovesIn m.state None m new out
ticks_move m new out h n =
    let c : Call = record { heard = None; machine = m; next = new; out = out; fop = h } in
    of_tick (λ given. Answers given m new (Ok out) → MovesIn m.state None m new out) m
    (λ e. idle c m.state refl e)
    (λ e. lowers c m.state refl e)
    (λ e. timer_moves c m.state refl e)
    (λ e. limit_moves c m.state refl e)

-- an offer that is taken comes in S1 to S3
of_taking : (P : Given → Type 0) (takes : Bool) (filled : Bool) (taken : List Action) → P (Err WaitQueueFull) → P (Err ServiceNotActive) → (takes ≡ true → P (Ok taken)) → P (if takes then (if filled then Err WaitQueueFull else Ok taken) else Err ServiceNotActive)
of_taking P true false taken full off good = good refl
of_taking P true true taken full off good = full
of_taking P false filled taken full off good = off

pub offers_move : (m : Machine) (w : Waiting) (new : Machine) (out : Out) → IsFop m → IsFop new → Answers (offered m w) m new (Ok out) → MovesIn m.state None m new out
offers_move m w new out h n =
    let c : Call = record { heard = None; machine = m; next = new; out = out; fop = h } in
    of_taking (λ given. Answers given m new (Ok out) → MovesIn m.state None m new out) (is_taking m.state) (is_some m.waiting) (Wait w ∷ look_in m.state) (λ e. absurd e) (λ e. absurd e)
    (λ t e. offer_moves c w m.state t refl e)

-- a termination stops the service, but in S6
term_moves : (c : Call) (s : FopState) → Moved c s (if is_initial s then [] else alerts alert.Term)
term_moves c s = by_state (λ t. Moved c t (if is_initial t then [] else alerts alert.Term)) (stops c alert.Term Active refl) (stops c alert.Term RetransmitWithoutWait refl) (stops c alert.Term RetransmitWithWait refl) (λ q e. gives_up c alert.Term e) (λ q e. gives_up c alert.Term e) (idle c Initial) s

-- V(S) is set in S6 alone
sets_vs : (c : Call) (v : ℕ) (s : FopState) → is_initial s ≡ true → Moved c s (SetVsAndNn v ∷ [])
sets_vs c v s =
    by_state (λ t. is_initial t ≡ true → Moved c t (SetVsAndNn v ∷ []))
    (λ i. absurd (false≢true i))
    (λ i. absurd (false≢true i))
    (λ i. absurd (false≢true i))
    (λ i. absurd (false≢true i))
    (λ i. absurd (false≢true i))
    (λ i q e. rested c.machine (change (SetVsAndNn v) c.machine) c.next c.out q refl e.0 e.1) s

pub directives_move : (m : Machine) (directive : Directive) (new : Machine) (out : Out) → is_initiation directive ≡ false → IsFop m → IsFop new → Answers (directed m directive) m new (Ok out) → MovesIn m.state None m new out
directives_move m directive.InitiateNone new out i h n = absurd (true≢false i)
directives_move m directive.InitiateCheck new out i h n = absurd (true≢false i)
directives_move m directive.InitiateUnlock new out i h n = absurd (true≢false i)
directives_move m (directive.InitiateSetVr v) new out i h n = absurd (true≢false i)
directives_move m directive.Terminate new out i h n = λ e. term_moves (record { heard = None; machine = m; next = new; out = out; fop = h }) m.state refl e
directives_move m (directive.SetVs v) new out i h n =
    of_initial (λ given. Answers given m new (Ok out) → MovesIn m.state None m new out) (is_initial m.state) (SetVsAndNn v ∷ []) (λ e. absurd e)
    (λ s e. sets_vs (record { heard = None; machine = m; next = new; out = out; fop = h }) v m.state s refl e)
directives_move m (directive.SetK k) new out i h n =
    of_setting (λ given. Answers given m new (Ok out) → MovesIn m.state None m new out) (k == 0) (SetKTo k ∷ []) (λ e. absurd e)
    (λ e. quiet (record { heard = None; machine = m; next = new; out = out; fop = h }) (change (SetKTo k) m) (record { state = refl; vs = refl; nn = refl; sent = refl; control = refl }) m.state refl e.0 e.1)
directives_move m (directive.SetT1 t1) new out i h n =
    of_setting (λ given. Answers given m new (Ok out) → MovesIn m.state None m new out) (t1 == 0) (SetT1To t1 ∷ []) (λ e. absurd e)
    (λ e. quiet (record { heard = None; machine = m; next = new; out = out; fop = h }) (change (SetT1To t1) m) (record { state = refl; vs = refl; nn = refl; sent = refl; control = refl }) m.state refl e.0 e.1)
directives_move m (directive.SetLimit limit) new out i h n =
    of_setting (λ given. Answers given m new (Ok out) → MovesIn m.state None m new out) (limit == 0) (SetLimitTo limit ∷ []) (λ e. absurd e)
    (λ e. quiet (record { heard = None; machine = m; next = new; out = out; fop = h }) (change (SetLimitTo limit) m) (record { state = refl; vs = refl; nn = refl; sent = refl; control = refl }) m.state refl e.0 e.1)
