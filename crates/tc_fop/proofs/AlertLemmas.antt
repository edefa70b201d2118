-- An alert gives back what is queued: the actions of the table either stop the service or stay out of S6.
use Rattle.std.proofs.Common.{◌≡◌, ℕ, ◌==◌, Bool, true, false, not, if◌then◌else◌, Option, Some, None, Ok, List, [], ◌∷◌, ◌++◌, map, take, refl, sym, ◌∙◌, ap}
use Rattle.std.specs.List.{list_all}
use Rattle.std.proofs.lemmas.Bool.{true≢false, false≢true}
use Rattle.std.proofs.lemmas.List.{append-nil}
use Rattle.tc_types.specs.declared.link.frames.Frame.TheVariants as frame
use Rattle.tc_farm.specs.declared.clcws.Clcw.{Clcw}
use Rattle.tc_fop.specs.declared.fop_rows.FopRow.{FopRow}
use Rattle.tc_fop.specs.declared.fop_rows.FopRow.TheVariants.{P1, P2, P3, P4, P5, P6, P7, P8, P9, P10, P11, P12, P13, P14, P15, P16}
use Rattle.tc_fop.specs.declared.signals.AlertKind.{AlertKind}
use Rattle.tc_fop.specs.declared.signals.AlertKind.TheVariants as alert
use Rattle.tc_types.specs.declared.link.directives.Directive.{Directive}
use Rattle.tc_types.specs.declared.link.directives.Directive.TheVariants as directive
use Rattle.tc_fop.specs.declared.signals.FopState.{FopState}
use Rattle.tc_fop.specs.declared.signals.FopState.TheVariants.{Active, RetransmitWithoutWait, RetransmitWithWait, InitialisingWithoutBc, InitialisingWithBc}
use Rattle.tc_fop.specs.declared.signals.Indication.TheVariants as indication
use Rattle.tc_fop.specs.Machine.{Machine, Held, Waiting, Out, Action, Remove, InitiateRetransmission, Transmit, Alert, StartTimer, CancelTimer, LowerTimer, CountOne, SendControl, DropControl, Begin, To, Wait, Initiate, SetVsAlone, SetVsAndNn, SetKTo, SetT1To, SetLimitTo, change, after, due, transmitted, given_back}
use Rattle.tc_fop.specs.Rows.{row_of}
use Rattle.tc_fop.specs.Cells.{cell, look, alerts, remove_some, timer_ended, timer_ended_at_limit}
use Rattle.tc_fop.specs.Calls.{Answers, is_taking, is_initial, look_in, offered, directed, reported, ticked}
use Rattle.tc_fop.specs.Standing.{IsFop}
use Rattle.tc_fop.specs.Requests.{GivesBack}
use Rattle.tc_fop.proofs.RequestLemmas.{both}
use Rattle.tc_fop.proofs.TableLemmas.{by_state, of_tick, of_offer, of_initial, of_setting}

-- it does not lead to S6
abbrev pub stays : Action → Bool
stays (Alert kind) = false
stays (To s) = not (is_initial s)
stays a = true

not_true : (b : Bool) → not b ≡ true → b ≡ false
not_true true e = absurd (false≢true e)
not_true false e = refl

transmitted_state : (w : Option Waiting) (m : Machine) → (transmitted w m).state ≡ m.state
transmitted_state None m = refl
transmitted_state (Some w) m = refl

step_stays : (a : Action) (m : Machine) → stays a ≡ true → is_initial m.state ≡ false → is_initial (change a m).state ≡ false
step_stays (Alert kind) m s h = absurd (false≢true s)
step_stays (To state) m s h = not_true (is_initial state) s
step_stays Transmit m s h = ap (λ t. is_initial t) (transmitted_state (due m) m) ∙ h
step_stays a m s h = h

run_stays : (todo : List Action) (m : Machine) → list_all stays todo ≡ true → is_initial m.state ≡ false → is_initial (after todo m).state ≡ false
run_stays [] m s h = h
run_stays (a ∷ todo) m s h =
    let x = both (stays a) (list_all stays todo) s in
    run_stays todo (change a m) x.1 (step_stays a m x.0 h)

-- the service goes on
goes_on : (todo : List Action) (m new : Machine) (out : Out) → list_all stays todo ≡ true → Answers (Ok todo) m new (Ok out) → GivesBack m new out
goes_on todo m new out s e = λ stopped before.
    absurd (true≢false (sym stopped ∙ ap (λ (n : Machine). is_initial n.state) e.0 ∙ run_stays todo m s before))

-- it stops
stops_now : (kind : AlertKind) (m new : Machine) (out : Out) → Answers (Ok (alerts kind)) m new (Ok out) → GivesBack m new out
stops_now kind m new out e = λ stopped before. (0, kind, ap (λ (o : Out). o.indications) e.1 ∙ append-nil (given_back kind m))

stops_late : (kind : AlertKind) (m new : Machine) (out : Out) → Answers (Ok (LowerTimer ∷ alerts kind)) m new (Ok out) → GivesBack m new out
stops_late kind m new out e = λ stopped before. (0, kind, ap (λ (o : Out). o.indications) e.1 ∙ append-nil (given_back kind m))

-- it stops for the limit
stops_behind : (none : Bool) (d : ℕ) (m new : Machine) (out : Out) → Answers (Ok ((if none then [] else Remove d ∷ []) ++ alerts alert.Limit)) m new (Ok out) → GivesBack m new out
stops_behind true d m new out e = stops_now alert.Limit m new out e
stops_behind false d m new out e = λ stopped before.
    let front = map (λ (held : Held). indication.Confirmed held.request) (take d m.sent) in
    (d, alert.Limit, ap (λ (o : Out). o.indications) e.1 ∙ ap (λ l. front ++ l) (append-nil (given_back alert.Limit (change (Remove d) m))))

-- a cell goes on or stops
of_cell : (P : List Action → Type 0) (row : FopRow) (s : FopState) → ((todo : List Action) → list_all stays todo ≡ true → P todo) → ((kind : AlertKind) → P (alerts kind)) → ((d : ℕ) → P (remove_some d ++ alerts alert.Limit)) → P (cell row s)
of_cell P P1 s go stop limit = by_state (λ t. P (cell P1 t)) (go ([]) refl) (stop alert.Synch) (stop alert.Synch) (go (CancelTimer ∷ To Active ∷ Begin ∷ []) refl) (go (CancelTimer ∷ DropControl ∷ To Active ∷ Begin ∷ []) refl) (go [] refl) s
of_cell P (P2 d) s go stop limit = by_state (λ t. P (cell (P2 d) t)) (go (Remove d ∷ CancelTimer ∷ look) refl) (go (Remove d ∷ CancelTimer ∷ To Active ∷ look) refl) (go (Remove d ∷ CancelTimer ∷ To Active ∷ look) refl) (go ([]) refl) (go ([]) refl) (go [] refl) s
of_cell P P3 s go stop limit = by_state (λ t. P (cell P3 t)) (stop alert.Clcw) (stop alert.Clcw) (stop alert.Clcw) (stop alert.Clcw) (go ([]) refl) (go [] refl) s
of_cell P P4 s go stop limit = by_state (λ t. P (cell P4 t)) (stop alert.Synch) (stop alert.Synch) (stop alert.Synch) (stop alert.Synch) (go ([]) refl) (go [] refl) s
of_cell P P5 s go stop limit = by_state (λ t. P (cell P5 t)) (go ([]) refl) (stop alert.Synch) (stop alert.Synch) (go ([]) refl) (go ([]) refl) (go [] refl) s
of_cell P (P6 d) s go stop limit = by_state (λ t. P (cell (P6 d) t)) (go (Remove d ∷ look) refl) (go (Remove d ∷ To Active ∷ look) refl) (go (Remove d ∷ To Active ∷ look) refl) (go ([]) refl) (go ([]) refl) (go [] refl) s
of_cell P P7 s go stop limit = by_state (λ t. P (cell P7 t)) (stop alert.Clcw) (stop alert.Clcw) (stop alert.Clcw) (go ([]) refl) (go ([]) refl) (go [] refl) s
of_cell P (P8 d) s go stop limit = by_state (λ t. P (cell (P8 d) t)) (limit d) (limit d) (limit d) (go ([]) refl) (go ([]) refl) (go [] refl) s
of_cell P (P9 d) s go stop limit = by_state (λ t. P (cell (P9 d) t)) (go (Remove d ∷ InitiateRetransmission ∷ To RetransmitWithoutWait ∷ look) refl) (go (Remove d ∷ InitiateRetransmission ∷ To RetransmitWithoutWait ∷ look) refl) (go (Remove d ∷ InitiateRetransmission ∷ To RetransmitWithoutWait ∷ look) refl) (go ([]) refl) (go ([]) refl) (go [] refl) s
of_cell P (P10 d) s go stop limit = by_state (λ t. P (cell (P10 d) t)) (go (Remove d ∷ To RetransmitWithWait ∷ []) refl) (go (Remove d ∷ To RetransmitWithWait ∷ []) refl) (go (Remove d ∷ To RetransmitWithWait ∷ []) refl) (go ([]) refl) (go ([]) refl) (go [] refl) s
of_cell P P11 s go stop limit = by_state (λ t. P (cell P11 t)) (go (InitiateRetransmission ∷ To RetransmitWithoutWait ∷ look) refl) (go ([]) refl) (go (InitiateRetransmission ∷ To RetransmitWithoutWait ∷ look) refl) (go ([]) refl) (go ([]) refl) (go [] refl) s
of_cell P P12 s go stop limit = by_state (λ t. P (cell P12 t)) (go (To RetransmitWithWait ∷ []) refl) (go (To RetransmitWithWait ∷ []) refl) (go ([]) refl) (go ([]) refl) (go ([]) refl) (go [] refl) s
of_cell P P13 s go stop limit = by_state (λ t. P (cell P13 t)) (go (To RetransmitWithoutWait ∷ []) refl) (go ([]) refl) (go (To RetransmitWithoutWait ∷ []) refl) (go ([]) refl) (go ([]) refl) (go [] refl) s
of_cell P P14 s go stop limit = by_state (λ t. P (cell P14 t)) (stop alert.NnR) (stop alert.NnR) (stop alert.NnR) (stop alert.NnR) (go ([]) refl) (go [] refl) s
of_cell P P15 s go stop limit = by_state (λ t. P (cell P15 t)) (stop alert.Lockout) (stop alert.Lockout) (stop alert.Lockout) (stop alert.Lockout) (go ([]) refl) (go [] refl) s
of_cell P P16 s go stop limit = by_state (λ t. P (cell P16 t)) (stop alert.Clcw) (stop alert.Clcw) (stop alert.Clcw) (stop alert.Clcw) (stop alert.Clcw) (go [] refl) s

of_timer : (P : List Action → Type 0) (s : FopState) → ((todo : List Action) → list_all stays todo ≡ true → P todo) → ((kind : AlertKind) → P (alerts kind)) → P (timer_ended s)
of_timer P s go stop = by_state (λ t. P (timer_ended t)) (go (InitiateRetransmission ∷ look) refl) (go (InitiateRetransmission ∷ look) refl) (go ([]) refl) (stop alert.T1) (go (SendControl ∷ CountOne ∷ StartTimer ∷ []) refl) (go [] refl) s

of_limit : (P : List Action → Type 0) (s : FopState) → ((todo : List Action) → list_all stays todo ≡ true → P todo) → ((kind : AlertKind) → P (alerts kind)) → P (timer_ended_at_limit s)
of_limit P s go stop = by_state (λ t. P (timer_ended_at_limit t)) (stop alert.T1) (stop alert.T1) (stop alert.T1) (stop alert.T1) (stop alert.T1) (go [] refl) s

look_stays : (s : FopState) → list_all stays (look_in s) ≡ true
look_stays s = by_state (λ t. list_all stays (look_in t) ≡ true) refl refl refl refl refl refl s

pub words_back : (m : Machine) (word : Option Clcw) (new : Machine) (out : Out) → IsFop m → IsFop new → Answers (reported m word) m new (Ok out) → GivesBack m new out
words_back m word new out h n =
    of_cell (λ todo. Answers (Ok todo) m new (Ok out) → GivesBack m new out) (row_of m word) m.state
    (λ todo s e. goes_on todo m new out s e)
    (λ kind e. stops_now kind m new out e)
    (λ d e. stops_behind (d == 0) d m new out e)

pub ticks_back : (m new : Machine) (out : Out) → IsFop m → IsFop new → Answers (ticked m) m new (Ok out) → GivesBack m new out
ticks_back m new out h n =
    of_tick (λ given. Answers given m new (Ok out) → GivesBack m new out) m
    (λ e. goes_on [] m new out refl e)
    (λ e. goes_on (LowerTimer ∷ []) m new out refl e)
    (of_timer (λ todo. Answers (Ok (LowerTimer ∷ todo)) m new (Ok out) → GivesBack m new out) m.state (λ todo s e. goes_on (LowerTimer ∷ todo) m new out s e) (λ kind e. stops_late kind m new out e))
    (of_limit (λ todo. Answers (Ok (LowerTimer ∷ todo)) m new (Ok out) → GivesBack m new out) m.state (λ todo s e. goes_on (LowerTimer ∷ todo) m new out s e) (λ kind e. stops_late kind m new out e))

pub offers_back : (m : Machine) (w : Waiting) (new : Machine) (out : Out) → IsFop m → IsFop new → Answers (offered m w) m new (Ok out) → GivesBack m new out
offers_back m w new out h n =
    of_offer (λ given. Answers given m new (Ok out) → GivesBack m new out) (is_taking m.state) m.waiting (Wait w ∷ look_in m.state) (λ e. absurd e) (λ e. absurd e)
    (λ none e. goes_on (Wait w ∷ look_in m.state) m new out (look_stays m.state) e)

terminates : (initial : Bool) (m new : Machine) (out : Out) → Answers (Ok (if initial then [] else Alert alert.Term ∷ [])) m new (Ok out) → GivesBack m new out
terminates true m new out e = goes_on [] m new out refl e
terminates false m new out e = stops_now alert.Term m new out e

-- in S6 nothing can stop
initial_back : (m new : Machine) (out : Out) → is_initial m.state ≡ true → GivesBack m new out
initial_back m new out s = λ stopped before. absurd (true≢false (sym s ∙ before))

pub directives_back : (m : Machine) (directive : Directive) (new : Machine) (out : Out) → IsFop m → IsFop new → Answers (directed m directive) m new (Ok out) → GivesBack m new out
directives_back m directive.InitiateNone new out h n = of_initial (λ given. Answers given m new (Ok out) → GivesBack m new out) (is_initial m.state) (Initiate None ∷ To Active ∷ Begin ∷ []) (λ e. absurd e) (λ s e. initial_back m new out s)
directives_back m directive.InitiateCheck new out h n = of_initial (λ given. Answers given m new (Ok out) → GivesBack m new out) (is_initial m.state) (Initiate None ∷ StartTimer ∷ To InitialisingWithoutBc ∷ []) (λ e. absurd e) (λ s e. initial_back m new out s)
directives_back m directive.InitiateUnlock new out h n = of_initial (λ given. Answers given m new (Ok out) → GivesBack m new out) (is_initial m.state) (Initiate (Some frame.Unlock) ∷ SendControl ∷ StartTimer ∷ To InitialisingWithBc ∷ []) (λ e. absurd e) (λ s e. initial_back m new out s)
directives_back m (directive.InitiateSetVr v) new out h n = of_initial (λ given. Answers given m new (Ok out) → GivesBack m new out) (is_initial m.state) (SetVsAlone v ∷ Initiate (Some (frame.SetVr v)) ∷ SendControl ∷ StartTimer ∷ To InitialisingWithBc ∷ []) (λ e. absurd e) (λ s e. initial_back m new out s)
directives_back m (directive.SetVs v) new out h n = of_initial (λ given. Answers given m new (Ok out) → GivesBack m new out) (is_initial m.state) (SetVsAndNn v ∷ []) (λ e. absurd e) (λ s e. initial_back m new out s)
directives_back m directive.Terminate new out h n = λ e. terminates (is_initial m.state) m new out e
directives_back m (directive.SetK k) new out h n = of_setting (λ given. Answers given m new (Ok out) → GivesBack m new out) (k == 0) (SetKTo k ∷ []) (λ e. absurd e) (λ e. goes_on (SetKTo k ∷ []) m new out refl e)
directives_back m (directive.SetT1 t1) new out h n = of_setting (λ given. Answers given m new (Ok out) → GivesBack m new out) (t1 == 0) (SetT1To t1 ∷ []) (λ e. absurd e) (λ e. goes_on (SetT1To t1 ∷ []) m new out refl e)
directives_back m (directive.SetLimit limit) new out h n = of_setting (λ given. Answers given m new (Ok out) → GivesBack m new out) (limit == 0) (SetLimitTo limit ∷ []) (λ e. absurd e) (λ e. goes_on (SetLimitTo limit ∷ []) m new out refl e)
