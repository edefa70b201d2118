-- What is confirmed stands at the front of the Sent_Queue, and where a request is transmitted the window was open.
use Rattle.std.proofs.Common.{◌≡◌, ℕ, ◌+◌, ◌-◌, ◌%◌, ◌<◌, ◌≤◌, ◌==◌, Bool, true, false, ◌&&◌, ◌||◌, if◌then◌else◌, ◌⊎◌, inl, inr, ⊎_elim, Option, Some, None, Ok, List, [], ◌∷◌, ◌++◌, map, take, length, refl, sym, ◌∙◌, ap, subst, arith}
use Rattle.std.specs.List.{flat_map, list_any, list_all}
use Rattle.std.proofs.lemmas.Bool.{false≢true}
use Rattle.std.proofs.lemmas.Bool.Decides.{nat_tests}
use Rattle.std.proofs.lemmas.Grind.{flat_map-append}
use Rattle.std.proofs.lemmas.List.{append-nil, take-map}
use Rattle.std.proofs.lemmas.List.Folds.{list_any-append}
use Rattle.tc_farm.specs.declared.clcws.Clcw.{Clcw}
use Rattle.tc_farm.specs.Farm.{distance}
use Rattle.tc_types.specs.declared.link.frames.Frame.TheVariants as frame
use Rattle.tc_fop.specs.declared.fop_rows.FopRow.{FopRow}
use Rattle.tc_fop.specs.declared.fop_rows.FopRow.TheVariants.{P1, P2, P3, P4, P5, P6, P7, P8, P9, P10, P11, P12, P13, P14, P15, P16}
use Rattle.tc_fop.specs.declared.signals.AlertKind.{AlertKind}
use Rattle.tc_fop.specs.declared.signals.AlertKind.TheVariants as alert
use Rattle.tc_types.specs.declared.link.directives.Directive.{Directive}
use Rattle.tc_types.specs.declared.link.directives.Directive.TheVariants as directive
use Rattle.tc_fop.specs.declared.signals.FopState.{FopState}
use Rattle.tc_fop.specs.declared.signals.FopState.TheVariants.{Active, RetransmitWithoutWait, RetransmitWithWait, InitialisingWithoutBc, InitialisingWithBc}
use Rattle.tc_fop.specs.declared.signals.Indication.TheVariants as indication
use Rattle.tc_fop.specs.Machine.{Machine, Held, Waiting, Out, Action, Remove, InitiateRetransmission, Transmit, Alert, StartTimer, CancelTimer, LowerTimer, SendControl, DropControl, Begin, To, Wait, Initiate, SetVsAlone, SetVsAndNn, SetKTo, SetT1To, SetLimitTo, change, said, after, output, is_window_open, due_from, transmitted, transmits, option_list, given_back}
use Rattle.tc_fop.specs.Rows.{Seen, row_seen, seen_in, row_of}
use Rattle.tc_fop.specs.Cells.{cell, look, alerts, timer_ended, timer_ended_at_limit}
use Rattle.tc_fop.specs.Calls.{Answers, is_taking, is_initial, look_in, offered, directed, reported, ticked}
use Rattle.tc_fop.specs.Standing.{IsFop}
use Rattle.tc_fop.specs.Requests.{confirms, is_first, is_transmitting, acknowledged, ConfirmsFront, KeepsWindow}
use Rattle.tc_fop.proofs.RequestLemmas.{both, alerted, confirmed_confirm, doubted_unconfirmed, back_unconfirmed}
use Rattle.tc_fop.proofs.TableLemmas.{by_state, of_tick, of_offer, of_initial, of_setting}

-- it confirms nothing
abbrev pub is_unremoving : Action → Bool
is_unremoving (Remove d) = false
is_unremoving a = true

transmit_unconfirmed : (opened : Bool) (w : Option Waiting) (vs : ℕ) → flat_map confirms (transmits (due_from opened w) vs).indications ≡ []
transmit_unconfirmed false w vs = refl
transmit_unconfirmed true None vs = refl
transmit_unconfirmed true (Some w) vs = refl

alert_unconfirmed : (kind : AlertKind) (m : Machine) → flat_map confirms (given_back kind m) ≡ []
alert_unconfirmed kind m =
    let back = flat_map confirms (map (λ (w : Waiting). indication.GivenBack w.request) (option_list m.waiting)) in
    alerted confirms kind m refl ∙ ap (λ l. l ++ back) (doubted_unconfirmed m.sent) ∙ back_unconfirmed (option_list m.waiting)

step_unconfirmed : (a : Action) (m : Machine) → is_unremoving a ≡ true → flat_map confirms (said a m).indications ≡ []
step_unconfirmed (Remove d) m h = absurd (false≢true h)
step_unconfirmed Transmit m h = transmit_unconfirmed (is_window_open m) m.waiting m.vs
step_unconfirmed (Alert kind) m h = alert_unconfirmed kind m
step_unconfirmed a m h = refl

run_unconfirmed : (todo : List Action) (m : Machine) → list_all is_unremoving todo ≡ true → flat_map confirms (output todo m).indications ≡ []
run_unconfirmed [] m h = refl
run_unconfirmed (a ∷ todo) m h =
    let x = both (is_unremoving a) (list_all is_unremoving todo) h in
    flat_map-append confirms (said a m).indications (output todo (change a m)).indications
    ∙ ap (λ l. l ++ flat_map confirms (output todo (change a m)).indications) (step_unconfirmed a m x.0)
    ∙ run_unconfirmed todo (change a m) x.1

-- how many a row removes
abbrev pub removed : FopRow → ℕ
removed P1 = 0
removed (P2 d) = d
removed P3 = 0
removed P4 = 0
removed P5 = 0
removed (P6 d) = d
removed P7 = 0
removed (P8 d) = d
removed (P9 d) = d
removed (P10 d) = d
removed P11 = 0
removed P12 = 0
removed P13 = 0
removed P14 = 0
removed P15 = 0
removed P16 = 0

removed_by_row : (s : Seen) → removed (row_seen s) ≤ s.d
removed_by_row s = grind arith

removed_by_word : (m : Machine) (word : Option Clcw) → removed (row_of m word) ≤ acknowledged m word
removed_by_word m None = omega arith
removed_by_word m (Some word) = removed_by_row (seen_in m word)

-- a cell removes first what its row says, or nothing
removes_first : (P : List Action → Type 0) (none : Bool) (d : ℕ) (rest : List Action) → P rest → P (Remove d ∷ rest) → P ((if none then [] else Remove d ∷ []) ++ rest)
removes_first P true d rest all behind = all
removes_first P false d rest all behind = behind

pub of_cell : (P : List Action → Type 0) (row : FopRow) (s : FopState) → ((todo : List Action) → list_all is_unremoving todo ≡ true → P todo) → ((d : ℕ) (todo : List Action) → d ≤ removed row → list_all is_unremoving todo ≡ true → P (Remove d ∷ todo)) → P (cell row s)
of_cell P P1 s all behind = by_state (λ t. P (cell P1 t)) (all ([]) refl) (all (alerts alert.Synch) refl) (all (alerts alert.Synch) refl) (all (CancelTimer ∷ To Active ∷ Begin ∷ []) refl) (all (CancelTimer ∷ DropControl ∷ To Active ∷ Begin ∷ []) refl) (all [] refl) s
of_cell P (P2 d) s all behind = by_state (λ t. P (cell (P2 d) t)) (behind d (CancelTimer ∷ look) (omega arith) refl) (behind d (CancelTimer ∷ To Active ∷ look) (omega arith) refl) (behind d (CancelTimer ∷ To Active ∷ look) (omega arith) refl) (all ([]) refl) (all ([]) refl) (all [] refl) s
of_cell P P3 s all behind = by_state (λ t. P (cell P3 t)) (all (alerts alert.Clcw) refl) (all (alerts alert.Clcw) refl) (all (alerts alert.Clcw) refl) (all (alerts alert.Clcw) refl) (all ([]) refl) (all [] refl) s
of_cell P P4 s all behind = by_state (λ t. P (cell P4 t)) (all (alerts alert.Synch) refl) (all (alerts alert.Synch) refl) (all (alerts alert.Synch) refl) (all (alerts alert.Synch) refl) (all ([]) refl) (all [] refl) s
of_cell P P5 s all behind = by_state (λ t. P (cell P5 t)) (all ([]) refl) (all (alerts alert.Synch) refl) (all (alerts alert.Synch) refl) (all ([]) refl) (all ([]) refl) (all [] refl) s
of_cell P (P6 d) s all behind = by_state (λ t. P (cell (P6 d) t)) (behind d (look) (omega arith) refl) (behind d (To Active ∷ look) (omega arith) refl) (behind d (To Active ∷ look) (omega arith) refl) (all ([]) refl) (all ([]) refl) (all [] refl) s
of_cell P P7 s all behind = by_state (λ t. P (cell P7 t)) (all (alerts alert.Clcw) refl) (all (alerts alert.Clcw) refl) (all (alerts alert.Clcw) refl) (all ([]) refl) (all ([]) refl) (all [] refl) s
of_cell P (P8 d) s all behind =
    let stop = removes_first P (d == 0) d (alerts alert.Limit) (all (alerts alert.Limit) refl) (behind d (alerts alert.Limit) (omega arith) refl) in
    by_state (λ t. P (cell (P8 d) t)) stop stop stop (all ([]) refl) (all ([]) refl) (all [] refl) s
of_cell P (P9 d) s all behind = by_state (λ t. P (cell (P9 d) t)) (behind d (InitiateRetransmission ∷ To RetransmitWithoutWait ∷ look) (omega arith) refl) (behind d (InitiateRetransmission ∷ To RetransmitWithoutWait ∷ look) (omega arith) refl) (behind d (InitiateRetransmission ∷ To RetransmitWithoutWait ∷ look) (omega arith) refl) (all ([]) refl) (all ([]) refl) (all [] refl) s
of_cell P (P10 d) s all behind = by_state (λ t. P (cell (P10 d) t)) (behind d (To RetransmitWithWait ∷ []) (omega arith) refl) (behind d (To RetransmitWithWait ∷ []) (omega arith) refl) (behind d (To RetransmitWithWait ∷ []) (omega arith) refl) (all ([]) refl) (all ([]) refl) (all [] refl) s
of_cell P P11 s all behind = by_state (λ t. P (cell P11 t)) (all (InitiateRetransmission ∷ To RetransmitWithoutWait ∷ look) refl) (all ([]) refl) (all (InitiateRetransmission ∷ To RetransmitWithoutWait ∷ look) refl) (all ([]) refl) (all ([]) refl) (all [] refl) s
of_cell P P12 s all behind = by_state (λ t. P (cell P12 t)) (all (To RetransmitWithWait ∷ []) refl) (all (To RetransmitWithWait ∷ []) refl) (all ([]) refl) (all ([]) refl) (all ([]) refl) (all [] refl) s
of_cell P P13 s all behind = by_state (λ t. P (cell P13 t)) (all (To RetransmitWithoutWait ∷ []) refl) (all ([]) refl) (all (To RetransmitWithoutWait ∷ []) refl) (all ([]) refl) (all ([]) refl) (all [] refl) s
of_cell P P14 s all behind = by_state (λ t. P (cell P14 t)) (all (alerts alert.NnR) refl) (all (alerts alert.NnR) refl) (all (alerts alert.NnR) refl) (all (alerts alert.NnR) refl) (all ([]) refl) (all [] refl) s
of_cell P P15 s all behind = by_state (λ t. P (cell P15 t)) (all (alerts alert.Lockout) refl) (all (alerts alert.Lockout) refl) (all (alerts alert.Lockout) refl) (all (alerts alert.Lockout) refl) (all ([]) refl) (all [] refl) s
of_cell P P16 s all behind = by_state (λ t. P (cell P16 t)) (all (alerts alert.Clcw) refl) (all (alerts alert.Clcw) refl) (all (alerts alert.Clcw) refl) (all (alerts alert.Clcw) refl) (all (alerts alert.Clcw) refl) (all [] refl) s

-- nothing is confirmed
none_confirmed : (todo : List Action) (most : ℕ) (m new : Machine) (out : Out) → list_all is_unremoving todo ≡ true → Answers (Ok todo) m new (Ok out) → ConfirmsFront most m out
none_confirmed todo most m new out h e =
    (0, omega arith, ap (λ (o : Out). flat_map confirms o.indications) e.1 ∙ run_unconfirmed todo m h)

front_confirmed : (d : ℕ) (todo : List Action) (most : ℕ) (m new : Machine) (out : Out) → d ≤ most → list_all is_unremoving todo ≡ true → Answers (Ok (Remove d ∷ todo)) m new (Ok out) → ConfirmsFront most m out
front_confirmed d todo most m new out le h e =
    let front = map (λ (held : Held). indication.Confirmed held.request) (take d m.sent) in
    let rest = (output todo (change (Remove d) m)).indications in
    let mine = map (λ (held : Held). held.request) (take d m.sent) in (
      d,
      le,
      ap (λ (o : Out). flat_map confirms o.indications) e.1
          ∙ flat_map-append confirms front rest
          ∙ ap (λ l. l ++ flat_map confirms rest) (confirmed_confirm (take d m.sent))
          ∙ ap (λ l. mine ++ l) (run_unconfirmed todo (change (Remove d) m) h)
          ∙ append-nil mine
          ∙ sym (take-map (λ (held : Held). held.request) d m.sent),
    )

pub words_front : (m : Machine) (word : Option Clcw) (new : Machine) (out : Out) → IsFop m → IsFop new → Answers (reported m word) m new (Ok out) → ConfirmsFront (acknowledged m word) m out
words_front m word new out h n =
    of_cell (λ todo. Answers (Ok todo) m new (Ok out) → ConfirmsFront (acknowledged m word) m out) (row_of m word) m.state
    (λ todo quiet e. none_confirmed todo (acknowledged m word) m new out quiet e)
    (λ d todo le quiet e. front_confirmed d todo (acknowledged m word) m new out (omega (arith, le, removed_by_word m word)) quiet e)

timer_unremoving : (s : FopState) → list_all is_unremoving (timer_ended s) ≡ true
timer_unremoving s = by_state (λ t. list_all is_unremoving (timer_ended t) ≡ true) refl refl refl refl refl refl s

limit_unremoving : (s : FopState) → list_all is_unremoving (timer_ended_at_limit s) ≡ true
limit_unremoving s = by_state (λ t. list_all is_unremoving (timer_ended_at_limit t) ≡ true) refl refl refl refl refl refl s

look_unremoving : (s : FopState) → list_all is_unremoving (look_in s) ≡ true
look_unremoving s = by_state (λ t. list_all is_unremoving (look_in t) ≡ true) refl refl refl refl refl refl s

pub ticks_front : (m new : Machine) (out : Out) → IsFop m → IsFop new → Answers (ticked m) m new (Ok out) → ConfirmsFront 0 m out
ticks_front m new out h n =
    of_tick (λ given. Answers given m new (Ok out) → ConfirmsFront 0 m out) m
    (λ e. none_confirmed [] 0 m new out refl e)
    (λ e. none_confirmed (LowerTimer ∷ []) 0 m new out refl e)
    (λ e. none_confirmed (LowerTimer ∷ timer_ended m.state) 0 m new out (timer_unremoving m.state) e)
    (λ e. none_confirmed (LowerTimer ∷ timer_ended_at_limit m.state) 0 m new out (limit_unremoving m.state) e)

pub offers_front : (m : Machine) (w : Waiting) (new : Machine) (out : Out) → IsFop m → IsFop new → Answers (offered m w) m new (Ok out) → ConfirmsFront 0 m out
offers_front m w new out h n =
    of_offer (λ given. Answers given m new (Ok out) → ConfirmsFront 0 m out) (is_taking m.state) m.waiting (Wait w ∷ look_in m.state) (λ e. absurd e) (λ e. absurd e)
    (λ none e. none_confirmed (Wait w ∷ look_in m.state) 0 m new out (look_unremoving m.state) e)

-- THE WINDOW
-- it transmits no request for the first time
abbrev pub is_quiet : Action → Bool
is_quiet Transmit = false
is_quiet a = true

abbrev pub is_last : List Action → Bool
is_last [] = true
is_last (a ∷ todo) = false

abbrev pub is_transmit : Action → Bool
is_transmit Transmit = true
is_transmit a = false

-- nothing follows a transmission
abbrev pub ends_well : List Action → Bool
ends_well [] = true
ends_well (a ∷ todo) = (is_quiet a && ends_well todo) || (is_transmit a && is_last todo)

doubted_quiet : (sent : List Held) → list_any is_first (map (λ (held : Held). indication.InDoubt held.request) sent) ≡ false
doubted_quiet [] = refl
doubted_quiet (first ∷ others) = doubted_quiet others

confirmed_quiet : (sent : List Held) → list_any is_first (map (λ (held : Held). indication.Confirmed held.request) sent) ≡ false
confirmed_quiet [] = refl
confirmed_quiet (first ∷ others) = confirmed_quiet others

back_quiet : (ws : List Waiting) → list_any is_first (map (λ (w : Waiting). indication.GivenBack w.request) ws) ≡ false
back_quiet [] = refl
back_quiet (first ∷ others) = back_quiet others

neither : (a b : Bool) → a ≡ false → b ≡ false → (a || b) ≡ false
neither true b x y = x
neither false b x y = y

alert_quiet : (kind : AlertKind) (m : Machine) → list_any is_first (given_back kind m) ≡ false
alert_quiet kind m =
    let doubted = map (λ (held : Held). indication.InDoubt held.request) m.sent in
    let back = map (λ (w : Waiting). indication.GivenBack w.request) (option_list m.waiting) in
    list_any-append is_first (doubted ++ back) (indication.Alert kind ∷ [])
    ∙ neither (list_any is_first (doubted ++ back)) false (list_any-append is_first doubted back ∙ neither (list_any is_first doubted) (list_any is_first back) (doubted_quiet m.sent) (back_quiet (option_list m.waiting))) refl

step_quiet : (a : Action) (m : Machine) → is_quiet a ≡ true → list_any is_first (said a m).indications ≡ false
step_quiet Transmit m h = absurd (false≢true h)
step_quiet (Remove d) m h = confirmed_quiet (take d m.sent)
step_quiet (Alert kind) m h = alert_quiet kind m
step_quiet a m h = refl

-- the window was open at the last number
abbrev pub WasOpen : Machine → Type 0
WasOpen new = (v : ℕ) × (new.vs ≡ (v + 1) % 256) × (distance v new.nn < new.k)

open_before : (opened : Bool) (w : Option Waiting) (m : Machine) → (opened ≡ true → distance m.vs m.nn < m.k) → list_any is_first ((transmits (due_from opened w) m.vs).indications ++ []) ≡ true → WasOpen (transmitted (due_from opened w) m)
open_before false w m h e = absurd (false≢true e)
open_before true None m h e = absurd (false≢true e)
open_before true (Some w) m h e = (m.vs, refl, h refl)

at_transmit : (a : Action) → is_transmit a ≡ true → (m : Machine) → is_transmitting (output (a ∷ []) m) ≡ true → WasOpen (after (a ∷ []) m)
at_transmit Transmit t m e = open_before (is_window_open m) m.waiting m (λ h. grind (arith, nat_tests, h)) e
at_transmit a t m e = absurd (false≢true t)

either : (a b : Bool) → (a || b) ≡ true → (a ≡ true) ⊎ (b ≡ true)
either true b e = inl refl
either false b e = inr e

last_open : (a : Action) (todo : List Action) (m : Machine) → is_last todo ≡ true → is_transmit a ≡ true → is_transmitting (output (a ∷ todo) m) ≡ true → WasOpen (after (a ∷ todo) m)
last_open a [] m l t e = at_transmit a t m e
last_open a (b ∷ todo) m l t e = absurd (false≢true l)

run_open : (todo : List Action) (m : Machine) → ends_well todo ≡ true → is_transmitting (output todo m) ≡ true → WasOpen (after todo m)
run_open [] m h e = absurd (false≢true e)
run_open (a ∷ todo) m h e =
    ⊎_elim
    (λ x.
    let quiet = both (is_quiet a) (ends_well todo) x in
    let rest : is_transmitting (output todo (change a m)) ≡ true =
    ap (λ b. b || is_transmitting (output todo (change a m))) (sym (step_quiet a m quiet.0)) ∙ sym (list_any-append is_first (said a m).indications (output todo (change a m)).indications) ∙ e
    in
    run_open todo (change a m) quiet.1 rest)
    (λ x. let last = both (is_transmit a) (is_last todo) x in last_open a todo m last.1 last.0 e)
    (either (is_quiet a && ends_well todo) (is_transmit a && is_last todo) h)

-- then at most K are out
few_in : (new : Machine) → IsFop new → WasOpen new → (taking : Bool) → is_taking new.state ≡ taking → length new.sent ≤ new.k
few_in new h o true t =
    let next : new.vs ≡ (new.nn + length new.sent) % 256 = h.next t in
    let few : length new.sent ≤ 255 = h.few in
    let nn : new.nn < 256 = h.nn in
    let last : new.vs ≡ (o.0 + 1) % 256 = o.1 in
    let opened : (o.0 + 256 - new.nn) % 256 < new.k = o.2 in
    omega (arith, next, few, nn, last, opened)
few_in new h o false t =
    let none : length new.sent ≡ 0 = ap length (h.no_sent t) in
    omega (arith, none)

few_out : (new : Machine) → IsFop new → WasOpen new → length new.sent ≤ new.k
few_out new h o = few_in new h o (is_taking new.state) refl

carried_window : (todo : List Action) (m new : Machine) (out : Out) → IsFop new → ends_well todo ≡ true → Answers (Ok todo) m new (Ok out) → KeepsWindow new out
carried_window todo m new out n h e = λ t.
    few_out new n (subst (λ (x : Machine). WasOpen x) (sym e.0) (run_open todo m h (sym (ap (λ (o : Out). is_transmitting o) e.1) ∙ t)))

stop_window : (none : Bool) (d : ℕ) → ends_well ((if none then [] else Remove d ∷ []) ++ alerts alert.Limit) ≡ true
stop_window true d = refl
stop_window false d = refl

cell_window : (row : FopRow) (s : FopState) → ends_well (cell row s) ≡ true
cell_window P1 s = by_state (λ t. ends_well (cell P1 t) ≡ true) refl refl refl refl refl refl s
cell_window (P2 d) s = by_state (λ t. ends_well (cell (P2 d) t) ≡ true) refl refl refl refl refl refl s
cell_window P3 s = by_state (λ t. ends_well (cell P3 t) ≡ true) refl refl refl refl refl refl s
cell_window P4 s = by_state (λ t. ends_well (cell P4 t) ≡ true) refl refl refl refl refl refl s
cell_window P5 s = by_state (λ t. ends_well (cell P5 t) ≡ true) refl refl refl refl refl refl s
cell_window (P6 d) s = by_state (λ t. ends_well (cell (P6 d) t) ≡ true) refl refl refl refl refl refl s
cell_window P7 s = by_state (λ t. ends_well (cell P7 t) ≡ true) refl refl refl refl refl refl s
cell_window (P8 d) s =
    let stop = stop_window (d == 0) d in
    by_state (λ t. ends_well (cell (P8 d) t) ≡ true) stop stop stop refl refl refl s
cell_window (P9 d) s = by_state (λ t. ends_well (cell (P9 d) t) ≡ true) refl refl refl refl refl refl s
cell_window (P10 d) s = by_state (λ t. ends_well (cell (P10 d) t) ≡ true) refl refl refl refl refl refl s
cell_window P11 s = by_state (λ t. ends_well (cell P11 t) ≡ true) refl refl refl refl refl refl s
cell_window P12 s = by_state (λ t. ends_well (cell P12 t) ≡ true) refl refl refl refl refl refl s
cell_window P13 s = by_state (λ t. ends_well (cell P13 t) ≡ true) refl refl refl refl refl refl s
cell_window P14 s = by_state (λ t. ends_well (cell P14 t) ≡ true) refl refl refl refl refl refl s
cell_window P15 s = by_state (λ t. ends_well (cell P15 t) ≡ true) refl refl refl refl refl refl s
cell_window P16 s = by_state (λ t. ends_well (cell P16 t) ≡ true) refl refl refl refl refl refl s

timer_window : (s : FopState) → ends_well (timer_ended s) ≡ true
timer_window s = by_state (λ t. ends_well (timer_ended t) ≡ true) refl refl refl refl refl refl s

limit_window : (s : FopState) → ends_well (timer_ended_at_limit s) ≡ true
limit_window s = by_state (λ t. ends_well (timer_ended_at_limit t) ≡ true) refl refl refl refl refl refl s

look_window : (s : FopState) → ends_well (look_in s) ≡ true
look_window s = by_state (λ t. ends_well (look_in t) ≡ true) refl refl refl refl refl refl s

lowered : (todo : List Action) → ends_well todo ≡ true → ends_well (LowerTimer ∷ todo) ≡ true
lowered todo h = ap (λ b. b || false) h

pub words_window : (m : Machine) (word : Option Clcw) (new : Machine) (out : Out) → IsFop m → IsFop new → Answers (reported m word) m new (Ok out) → KeepsWindow new out
words_window m word new out h n e = carried_window (cell (row_of m word) m.state) m new out n (cell_window (row_of m word) m.state) e

pub ticks_window : (m new : Machine) (out : Out) → IsFop m → IsFop new → Answers (ticked m) m new (Ok out) → KeepsWindow new out
ticks_window m new out h n =
    of_tick (λ given. Answers given m new (Ok out) → KeepsWindow new out) m
    (λ e. carried_window [] m new out n refl e)
    (λ e. carried_window (LowerTimer ∷ []) m new out n refl e)
    (λ e. carried_window (LowerTimer ∷ timer_ended m.state) m new out n (lowered (timer_ended m.state) (timer_window m.state)) e)
    (λ e. carried_window (LowerTimer ∷ timer_ended_at_limit m.state) m new out n (lowered (timer_ended_at_limit m.state) (limit_window m.state)) e)

pub offers_window : (m : Machine) (w : Waiting) (new : Machine) (out : Out) → IsFop m → IsFop new → Answers (offered m w) m new (Ok out) → KeepsWindow new out
offers_window m w new out h n =
    of_offer (λ given. Answers given m new (Ok out) → KeepsWindow new out) (is_taking m.state) m.waiting (Wait w ∷ look_in m.state) (λ e. absurd e) (λ e. absurd e)
    (λ none e. carried_window (Wait w ∷ look_in m.state) m new out n (ap (λ b. b || false) (look_window m.state)) e)

terminate_unremoving : (initial : Bool) → list_all is_unremoving (if initial then [] else Alert alert.Term ∷ []) ≡ true
terminate_unremoving true = refl
terminate_unremoving false = refl

terminate_window : (initial : Bool) → ends_well (if initial then [] else Alert alert.Term ∷ []) ≡ true
terminate_window true = refl
terminate_window false = refl

pub directives_front : (m : Machine) (directive : Directive) (new : Machine) (out : Out) → IsFop m → IsFop new → Answers (directed m directive) m new (Ok out) → ConfirmsFront 0 m out
directives_front m directive.InitiateNone new out h n =
    of_initial (λ given. Answers given m new (Ok out) → ConfirmsFront 0 m out) (is_initial m.state) (Initiate None ∷ To Active ∷ Begin ∷ []) (λ e. absurd e)
    (λ s e. none_confirmed (Initiate None ∷ To Active ∷ Begin ∷ []) 0 m new out refl e)
directives_front m directive.InitiateCheck new out h n =
    of_initial (λ given. Answers given m new (Ok out) → ConfirmsFront 0 m out) (is_initial m.state) (Initiate None ∷ StartTimer ∷ To InitialisingWithoutBc ∷ []) (λ e. absurd e)
    (λ s e. none_confirmed (Initiate None ∷ StartTimer ∷ To InitialisingWithoutBc ∷ []) 0 m new out refl e)
directives_front m directive.InitiateUnlock new out h n =
    of_initial (λ given. Answers given m new (Ok out) → ConfirmsFront 0 m out) (is_initial m.state) (Initiate (Some frame.Unlock) ∷ SendControl ∷ StartTimer ∷ To InitialisingWithBc ∷ []) (λ e. absurd e)
    (λ s e. none_confirmed (Initiate (Some frame.Unlock) ∷ SendControl ∷ StartTimer ∷ To InitialisingWithBc ∷ []) 0 m new out refl e)
directives_front m (directive.InitiateSetVr v) new out h n =
    of_initial (λ given. Answers given m new (Ok out) → ConfirmsFront 0 m out) (is_initial m.state) (SetVsAlone v ∷ Initiate (Some (frame.SetVr v)) ∷ SendControl ∷ StartTimer ∷ To InitialisingWithBc ∷ []) (λ e. absurd e)
    (λ s e. none_confirmed (SetVsAlone v ∷ Initiate (Some (frame.SetVr v)) ∷ SendControl ∷ StartTimer ∷ To InitialisingWithBc ∷ []) 0 m new out refl e)
directives_front m (directive.SetVs v) new out h n =
    of_initial (λ given. Answers given m new (Ok out) → ConfirmsFront 0 m out) (is_initial m.state) (SetVsAndNn v ∷ []) (λ e. absurd e)
    (λ s e. none_confirmed (SetVsAndNn v ∷ []) 0 m new out refl e)
directives_front m directive.Terminate new out h n = λ e. none_confirmed (if is_initial m.state then [] else Alert alert.Term ∷ []) 0 m new out (terminate_unremoving (is_initial m.state)) e
directives_front m (directive.SetK k) new out h n =
    of_setting (λ given. Answers given m new (Ok out) → ConfirmsFront 0 m out) (k == 0) (SetKTo k ∷ []) (λ e. absurd e) (λ e. none_confirmed (SetKTo k ∷ []) 0 m new out refl e)
directives_front m (directive.SetT1 t1) new out h n =
    of_setting (λ given. Answers given m new (Ok out) → ConfirmsFront 0 m out) (t1 == 0) (SetT1To t1 ∷ []) (λ e. absurd e) (λ e. none_confirmed (SetT1To t1 ∷ []) 0 m new out refl e)
directives_front m (directive.SetLimit limit) new out h n =
    of_setting (λ given. Answers given m new (Ok out) → ConfirmsFront 0 m out) (limit == 0) (SetLimitTo limit ∷ []) (λ e. absurd e) (λ e. none_confirmed (SetLimitTo limit ∷ []) 0 m new out refl e)

pub directives_window : (m : Machine) (directive : Directive) (new : Machine) (out : Out) → IsFop m → IsFop new → Answers (directed m directive) m new (Ok out) → KeepsWindow new out
directives_window m directive.InitiateNone new out h n =
    of_initial (λ given. Answers given m new (Ok out) → KeepsWindow new out) (is_initial m.state) (Initiate None ∷ To Active ∷ Begin ∷ []) (λ e. absurd e)
    (λ s e. carried_window (Initiate None ∷ To Active ∷ Begin ∷ []) m new out n refl e)
directives_window m directive.InitiateCheck new out h n =
    of_initial (λ given. Answers given m new (Ok out) → KeepsWindow new out) (is_initial m.state) (Initiate None ∷ StartTimer ∷ To InitialisingWithoutBc ∷ []) (λ e. absurd e)
    (λ s e. carried_window (Initiate None ∷ StartTimer ∷ To InitialisingWithoutBc ∷ []) m new out n refl e)
directives_window m directive.InitiateUnlock new out h n =
    of_initial (λ given. Answers given m new (Ok out) → KeepsWindow new out) (is_initial m.state) (Initiate (Some frame.Unlock) ∷ SendControl ∷ StartTimer ∷ To InitialisingWithBc ∷ []) (λ e. absurd e)
    (λ s e. carried_window (Initiate (Some frame.Unlock) ∷ SendControl ∷ StartTimer ∷ To InitialisingWithBc ∷ []) m new out n refl e)
directives_window m (directive.InitiateSetVr v) new out h n =
    of_initial (λ given. Answers given m new (Ok out) → KeepsWindow new out) (is_initial m.state) (SetVsAlone v ∷ Initiate (Some (frame.SetVr v)) ∷ SendControl ∷ StartTimer ∷ To InitialisingWithBc ∷ []) (λ e. absurd e)
    (λ s e. carried_window (SetVsAlone v ∷ Initiate (Some (frame.SetVr v)) ∷ SendControl ∷ StartTimer ∷ To InitialisingWithBc ∷ []) m new out n refl e)
directives_window m (directive.SetVs v) new out h n =
    of_initial (λ given. Answers given m new (Ok out) → KeepsWindow new out) (is_initial m.state) (SetVsAndNn v ∷ []) (λ e. absurd e)
    (λ s e. carried_window (SetVsAndNn v ∷ []) m new out n refl e)
directives_window m directive.Terminate new out h n = λ e. carried_window (if is_initial m.state then [] else Alert alert.Term ∷ []) m new out n (terminate_window (is_initial m.state)) e
directives_window m (directive.SetK k) new out h n =
    of_setting (λ given. Answers given m new (Ok out) → KeepsWindow new out) (k == 0) (SetKTo k ∷ []) (λ e. absurd e) (λ e. carried_window (SetKTo k ∷ []) m new out n refl e)
directives_window m (directive.SetT1 t1) new out h n =
    of_setting (λ given. Answers given m new (Ok out) → KeepsWindow new out) (t1 == 0) (SetT1To t1 ∷ []) (λ e. absurd e) (λ e. carried_window (SetT1To t1 ∷ []) m new out n refl e)
directives_window m (directive.SetLimit limit) new out h n =
    of_setting (λ given. Answers given m new (Ok out) → KeepsWindow new out) (limit == 0) (SetLimitTo limit ∷ []) (λ e. absurd e) (λ e. carried_window (SetLimitTo limit ∷ []) m new out n refl e)
