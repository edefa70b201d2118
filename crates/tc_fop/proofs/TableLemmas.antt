-- What the lists of the table have in common.
use Rattle.std.proofs.Common.{◌≡◌, ℕ, ◌==◌, nat_lt, Bool, true, false, if◌then◌else◌, is_some, Option, Some, None, Ok, Err, List, [], ◌∷◌, ◌++◌, map, refl, sym, ◌∙◌, ap}
use Rattle.std.specs.List.{flat_map, list_all}
use Rattle.std.proofs.lemmas.Bool.{false≢true}
use Rattle.std.proofs.lemmas.List.{append-nil}
use Rattle.tc_farm.specs.declared.clcws.Clcw.{Clcw}
use Rattle.tc_fop.specs.declared.fop_rows.FopRow.{FopRow}
use Rattle.tc_fop.specs.declared.fop_rows.FopRow.TheVariants.{P1, P2, P3, P4, P5, P6, P7, P8, P9, P10, P11, P12, P13, P14, P15, P16}
use Rattle.tc_types.specs.declared.link.frames.Frame.TheVariants as frame
use Rattle.tc_types.specs.declared.refusals.Refusal.TheVariants.{WaitQueueFull, ServiceNotActive, BadDirective}
use Rattle.tc_fop.specs.declared.signals.AlertKind.TheVariants as alert
use Rattle.tc_fop.specs.declared.signals.Indication.{Indication}
use Rattle.tc_fop.specs.declared.signals.Indication.TheVariants as indication
use Rattle.tc_types.specs.declared.link.directives.Directive.{Directive}
use Rattle.tc_types.specs.declared.link.directives.Directive.TheVariants as directive
use Rattle.tc_fop.specs.declared.signals.FopState.{FopState}
use Rattle.tc_fop.specs.declared.signals.FopState.TheVariants.{Active, RetransmitWithoutWait, RetransmitWithWait, InitialisingWithoutBc, InitialisingWithBc, Initial}
use Rattle.tc_fop.specs.Machine.{Machine, Held, Waiting, Out, Action, Remove, Alert, LowerTimer, Wait, StartTimer, SendControl, Begin, To, Initiate, SetVsAlone, SetVsAndNn, SetKTo, SetT1To, SetLimitTo, change, after, output, option_list}
use Rattle.tc_fop.specs.Rows.{row_of}
use Rattle.tc_fop.specs.Cells.{cell, timer_ended, timer_ended_at_limit}
use Rattle.tc_fop.specs.Calls.{Given, Answers, is_taking, is_initial, look_in, offered, directed, reported, ticked, at_last_tick}
use Rattle.tc_fop.specs.Standing.{IsFop}
use Rattle.tc_fop.specs.Requests.{sent_requests, waiting_requests, queued, ends, leaves, KeepsRequests, KeepsOrder}
use Rattle.tc_fop.proofs.RequestLemmas.{is_inner, run_requests, run_order}

pub by_state : (P : FopState → Type 0) → P Active → P RetransmitWithoutWait → P RetransmitWithWait → P InitialisingWithoutBc → P InitialisingWithBc → P Initial → (s : FopState) → P s
by_state P a b c d e f Active = a
by_state P a b c d e f RetransmitWithoutWait = b
by_state P a b c d e f RetransmitWithWait = c
by_state P a b c d e f InitialisingWithoutBc = d
by_state P a b c d e f InitialisingWithBc = e
by_state P a b c d e f Initial = f

-- at the limit something is removed, or nothing
removing_inner : (none : Bool) (d : ℕ) → list_all is_inner ((if none then [] else Remove d ∷ []) ++ Alert alert.Limit ∷ []) ≡ true
removing_inner true d = refl
removing_inner false d = refl

pub cell_inner : (row : FopRow) (s : FopState) → list_all is_inner (cell row s) ≡ true
cell_inner P1 s = by_state (λ t. list_all is_inner (cell P1 t) ≡ true) refl refl refl refl refl refl s
cell_inner (P2 d) s = by_state (λ t. list_all is_inner (cell (P2 d) t) ≡ true) refl refl refl refl refl refl s
cell_inner P3 s = by_state (λ t. list_all is_inner (cell P3 t) ≡ true) refl refl refl refl refl refl s
cell_inner P4 s = by_state (λ t. list_all is_inner (cell P4 t) ≡ true) refl refl refl refl refl refl s
cell_inner P5 s = by_state (λ t. list_all is_inner (cell P5 t) ≡ true) refl refl refl refl refl refl s
cell_inner (P6 d) s = by_state (λ t. list_all is_inner (cell (P6 d) t) ≡ true) refl refl refl refl refl refl s
cell_inner P7 s = by_state (λ t. list_all is_inner (cell P7 t) ≡ true) refl refl refl refl refl refl s
cell_inner (P8 d) s =
    let stop = removing_inner (d == 0) d in
    by_state (λ t. list_all is_inner (cell (P8 d) t) ≡ true) stop stop stop refl refl refl s
cell_inner (P9 d) s = by_state (λ t. list_all is_inner (cell (P9 d) t) ≡ true) refl refl refl refl refl refl s
cell_inner (P10 d) s = by_state (λ t. list_all is_inner (cell (P10 d) t) ≡ true) refl refl refl refl refl refl s
cell_inner P11 s = by_state (λ t. list_all is_inner (cell P11 t) ≡ true) refl refl refl refl refl refl s
cell_inner P12 s = by_state (λ t. list_all is_inner (cell P12 t) ≡ true) refl refl refl refl refl refl s
cell_inner P13 s = by_state (λ t. list_all is_inner (cell P13 t) ≡ true) refl refl refl refl refl refl s
cell_inner P14 s = by_state (λ t. list_all is_inner (cell P14 t) ≡ true) refl refl refl refl refl refl s
cell_inner P15 s = by_state (λ t. list_all is_inner (cell P15 t) ≡ true) refl refl refl refl refl refl s
cell_inner P16 s = by_state (λ t. list_all is_inner (cell P16 t) ≡ true) refl refl refl refl refl refl s

pub timer_inner : (s : FopState) → list_all is_inner (timer_ended s) ≡ true
timer_inner s = by_state (λ t. list_all is_inner (timer_ended t) ≡ true) refl refl refl refl refl refl s

pub limit_inner : (s : FopState) → list_all is_inner (timer_ended_at_limit s) ≡ true
limit_inner s = by_state (λ t. list_all is_inner (timer_ended_at_limit t) ≡ true) refl refl refl refl refl refl s

pub look_inner : (s : FopState) → list_all is_inner (look_in s) ≡ true
look_inner s = by_state (λ t. list_all is_inner (look_in t) ≡ true) refl refl refl refl refl refl s

-- the actions of a tick are one of these lists
pub of_tick : (P : Given → Type 0) (m : Machine) → P (Ok []) → P (Ok (LowerTimer ∷ [])) → P (Ok (LowerTimer ∷ timer_ended m.state)) → P (Ok (LowerTimer ∷ timer_ended_at_limit m.state)) → P (ticked m)
of_tick P m none lower end limit =
    elim (m.timer == 0) as (λ b. P (if b then Ok [] else if m.timer == 1 then Ok (LowerTimer ∷ at_last_tick m) else Ok (LowerTimer ∷ []))) [
      | true ↦ none
      | false ↦ elim (m.timer == 1) as (λ b. P (if b then Ok (LowerTimer ∷ at_last_tick m) else Ok (LowerTimer ∷ []))) [
        | true ↦ elim (nat_lt m.count m.limit) as (λ b. P (Ok (LowerTimer ∷ (if b then timer_ended m.state else timer_ended_at_limit m.state)))) [ true ↦ end | false ↦ limit ]
        | false ↦ lower
      ]
    ]

-- a law on the requests of a machine, by what indications take away
pub record Law : Type 0 where
  pub q : Machine → List ℕ
  pub f : Indication → List ℕ
  pub go : (todo : List Action) (m : Machine) → list_all is_inner todo ≡ true → q m ≡ flat_map f (output todo m).indications ++ q (after todo m)
  pub wait : (m : Machine) (w : Waiting) → m.waiting ≡ None → q m ++ w.request ∷ [] ≡ q (change (Wait w) m)
  pub empty : (m : Machine) → m.sent ≡ [] → m.waiting ≡ None → q m ≡ []
  pub started : flat_map f (indication.Started ∷ []) ≡ []

abbrev pub Holds : Law → List ℕ → Machine → Machine → Out → Type 0
Holds l offered old new out = l.q old ++ offered ≡ flat_map l.f out.indications ++ l.q new

-- the same where the output and the machine are those of the actions
moved : (l : Law) (todo : List Action) (before : List ℕ) (m new : Machine) (out : Out) → before ≡ flat_map l.f (output todo m).indications ++ l.q (after todo m) → Answers (Ok todo) m new (Ok out) → before ≡ flat_map l.f out.indications ++ l.q new
moved l todo before m new out h e =
    h ∙ ap (λ (o : Out). flat_map l.f o.indications ++ l.q (after todo m)) (sym e.1) ∙ ap (λ (n : Machine). flat_map l.f out.indications ++ l.q n) (sym e.0)

carried : (l : Law) (todo : List Action) (m new : Machine) (out : Out) → list_all is_inner todo ≡ true → Answers (Ok todo) m new (Ok out) → Holds l [] m new out
carried l todo m new out h e = moved l todo (l.q m ++ []) m new out (append-nil (l.q m) ∙ l.go todo m h) e

-- where nothing is queued before and after
fresh : (l : Law) (todo : List Action) (m new : Machine) (out : Out) → l.q m ≡ [] → l.q (after todo m) ≡ [] → flat_map l.f (output todo m).indications ≡ [] → Answers (Ok todo) m new (Ok out) → Holds l [] m new out
fresh l todo m new out none left silent e =
    moved l todo (l.q m ++ []) m new out (ap (λ x. x ++ []) none ∙ sym (ap (λ x. x ++ l.q (after todo m)) silent ∙ left)) e

pub at_words : (l : Law) (m : Machine) (word : Option Clcw) (new : Machine) (out : Out) → IsFop m → IsFop new → Answers (reported m word) m new (Ok out) → Holds l [] m new out
at_words l m word new out h n e = carried l (cell (row_of m word) m.state) m new out (cell_inner (row_of m word) m.state) e

pub at_ticks : (l : Law) (m new : Machine) (out : Out) → IsFop m → IsFop new → Answers (ticked m) m new (Ok out) → Holds l [] m new out
at_ticks l m new out h n =
    of_tick (λ given. Answers given m new (Ok out) → Holds l [] m new out) m
    (λ e. carried l [] m new out refl e)
    (λ e. carried l (LowerTimer ∷ []) m new out refl e)
    (λ e. carried l (LowerTimer ∷ timer_ended m.state) m new out (timer_inner m.state) e)
    (λ e. carried l (LowerTimer ∷ timer_ended_at_limit m.state) m new out (limit_inner m.state) e)

-- an offer is taken where nothing waits
pub of_offer : (P : Given → Type 0) (takes : Bool) (waiting : Option Waiting) (taken : List Action) → P (Err WaitQueueFull) → P (Err ServiceNotActive) → (waiting ≡ None → P (Ok taken)) → P (if takes then (if is_some waiting then Err WaitQueueFull else Ok taken) else Err ServiceNotActive)
of_offer P true None taken full off good = good refl
of_offer P true (Some w) taken full off good = full
of_offer P false waiting taken full off good = off

pub at_offers : (l : Law) (m : Machine) (w : Waiting) (new : Machine) (out : Out) → IsFop m → IsFop new → Answers (offered m w) m new (Ok out) → Holds l (w.request ∷ []) m new out
at_offers l m w new out h n =
    of_offer (λ given. Answers given m new (Ok out) → Holds l (w.request ∷ []) m new out) (is_taking m.state) m.waiting (Wait w ∷ look_in m.state) (λ e. absurd e) (λ e. absurd e)
    (λ none e. moved l (Wait w ∷ look_in m.state) (l.q m ++ w.request ∷ []) m new out (l.wait m w none ∙ l.go (look_in m.state) (change (Wait w) m) (look_inner m.state)) e)

initial_takes_none : (s : FopState) → is_initial s ≡ true → is_taking s ≡ false
initial_takes_none Active e = absurd (false≢true e)
initial_takes_none RetransmitWithoutWait e = absurd (false≢true e)
initial_takes_none RetransmitWithWait e = absurd (false≢true e)
initial_takes_none InitialisingWithoutBc e = refl
initial_takes_none InitialisingWithBc e = refl
initial_takes_none Initial e = refl

-- what is taken in S6 alone
pub of_initial : (P : Given → Type 0) (initial : Bool) (todo : List Action) → P (Err BadDirective) → (initial ≡ true → P (Ok todo)) → P (if initial then Ok todo else Err BadDirective)
of_initial P true todo bad good = good refl
of_initial P false todo bad good = bad

pub of_setting : (P : Given → Type 0) (zero : Bool) (todo : List Action) → P (Err BadDirective) → P (Ok todo) → P (if zero then Err BadDirective else Ok todo)
of_setting P true todo bad good = bad
of_setting P false todo bad good = good

terminate_inner : (initial : Bool) → list_all is_inner (if initial then [] else Alert alert.Term ∷ []) ≡ true
terminate_inner true = refl
terminate_inner false = refl

pub at_directives : (l : Law) (m : Machine) (directive : Directive) (new : Machine) (out : Out) → IsFop m → IsFop new → Answers (directed m directive) m new (Ok out) → Holds l [] m new out
at_directives l m directive.InitiateNone new out h n =
    of_initial (λ given. Answers given m new (Ok out) → Holds l [] m new out) (is_initial m.state) (Initiate None ∷ To Active ∷ Begin ∷ []) (λ e. absurd e)
    (λ s e. let none = initial_takes_none m.state s in fresh l (Initiate None ∷ To Active ∷ Begin ∷ []) m new out (l.empty m (h.no_sent none) (h.no_waiting none)) (l.empty (after (Initiate None ∷ To Active ∷ Begin ∷ []) m) refl refl) l.started e)
at_directives l m directive.InitiateCheck new out h n =
    of_initial (λ given. Answers given m new (Ok out) → Holds l [] m new out) (is_initial m.state) (Initiate None ∷ StartTimer ∷ To InitialisingWithoutBc ∷ []) (λ e. absurd e)
    (λ s e. let none = initial_takes_none m.state s in fresh l (Initiate None ∷ StartTimer ∷ To InitialisingWithoutBc ∷ []) m new out (l.empty m (h.no_sent none) (h.no_waiting none)) (l.empty (after (Initiate None ∷ StartTimer ∷ To InitialisingWithoutBc ∷ []) m) refl refl) refl e)
at_directives l m directive.InitiateUnlock new out h n =
    of_initial (λ given. Answers given m new (Ok out) → Holds l [] m new out) (is_initial m.state) (Initiate (Some frame.Unlock) ∷ SendControl ∷ StartTimer ∷ To InitialisingWithBc ∷ []) (λ e. absurd e)
    (λ s e. let none = initial_takes_none m.state s in fresh l (Initiate (Some frame.Unlock) ∷ SendControl ∷ StartTimer ∷ To InitialisingWithBc ∷ []) m new out (l.empty m (h.no_sent none) (h.no_waiting none)) (l.empty (after (Initiate (Some frame.Unlock) ∷ SendControl ∷ StartTimer ∷ To InitialisingWithBc ∷ []) m) refl refl) refl e)
at_directives l m (directive.InitiateSetVr v) new out h n =
    of_initial (λ given. Answers given m new (Ok out) → Holds l [] m new out) (is_initial m.state) (SetVsAlone v ∷ Initiate (Some (frame.SetVr v)) ∷ SendControl ∷ StartTimer ∷ To InitialisingWithBc ∷ []) (λ e. absurd e)
    (λ s e. let none = initial_takes_none m.state s in fresh l (SetVsAlone v ∷ Initiate (Some (frame.SetVr v)) ∷ SendControl ∷ StartTimer ∷ To InitialisingWithBc ∷ []) m new out (l.empty m (h.no_sent none) (h.no_waiting none)) (l.empty (after (SetVsAlone v ∷ Initiate (Some (frame.SetVr v)) ∷ SendControl ∷ StartTimer ∷ To InitialisingWithBc ∷ []) m) refl refl) refl e)
at_directives l m directive.Terminate new out h n = λ e. carried l (if is_initial m.state then [] else Alert alert.Term ∷ []) m new out (terminate_inner (is_initial m.state)) e
at_directives l m (directive.SetVs v) new out h n =
    of_initial (λ given. Answers given m new (Ok out) → Holds l [] m new out) (is_initial m.state) (SetVsAndNn v ∷ []) (λ e. absurd e)
    (λ s e. let none = initial_takes_none m.state s in fresh l (SetVsAndNn v ∷ []) m new out (l.empty m (h.no_sent none) (h.no_waiting none)) (l.empty (after (SetVsAndNn v ∷ []) m) (h.no_sent none) (h.no_waiting none)) refl e)
at_directives l m (directive.SetK k) new out h n =
    of_setting (λ given. Answers given m new (Ok out) → Holds l [] m new out) (k == 0) (SetKTo k ∷ []) (λ e. absurd e) (λ e. carried l (SetKTo k ∷ []) m new out refl e)
at_directives l m (directive.SetT1 t1) new out h n =
    of_setting (λ given. Answers given m new (Ok out) → Holds l [] m new out) (t1 == 0) (SetT1To t1 ∷ []) (λ e. absurd e) (λ e. carried l (SetT1To t1 ∷ []) m new out refl e)
at_directives l m (directive.SetLimit limit) new out h n =
    of_setting (λ given. Answers given m new (Ok out) → Holds l [] m new out) (limit == 0) (SetLimitTo limit ∷ []) (λ e. absurd e) (λ e. carried l (SetLimitTo limit ∷ []) m new out refl e)

-- no request is lost
waits_requests : (m : Machine) (w : Waiting) → m.waiting ≡ None → queued m ++ w.request ∷ [] ≡ queued (change (Wait w) m)
waits_requests m w e =
    ap (λ o. (sent_requests m ++ map (λ (x : Waiting). x.request) (option_list o)) ++ w.request ∷ []) e
    ∙ ap (λ l. l ++ w.request ∷ []) (append-nil (sent_requests m))

empty_requests : (m : Machine) → m.sent ≡ [] → m.waiting ≡ None → queued m ≡ []
empty_requests m s w =
    ap (λ l. map (λ (held : Held). held.request) l ++ waiting_requests m) s
    ∙ ap (λ o. map (λ (x : Waiting). x.request) (option_list o)) w

pub requests : Law
requests = record { q = queued; f = ends; go = run_requests; wait = waits_requests; empty = empty_requests; started = refl }

-- in the order offered
waits_order : (m : Machine) (w : Waiting) → m.waiting ≡ None → waiting_requests m ++ w.request ∷ [] ≡ waiting_requests (change (Wait w) m)
waits_order m w e = ap (λ o. map (λ (x : Waiting). x.request) (option_list o) ++ w.request ∷ []) e

pub order : Law
order = record { q = waiting_requests; f = leaves; go = run_order; wait = waits_order; empty = λ m s w. ap (λ o. map (λ (x : Waiting). x.request) (option_list o)) w; started = refl }

pub words_requests : (m : Machine) (word : Option Clcw) (new : Machine) (out : Out) → IsFop m → IsFop new → Answers (reported m word) m new (Ok out) → KeepsRequests [] m new out
unfolding requests
words_requests m word new out h n e = at_words requests m word new out h n e

pub ticks_requests : (m new : Machine) (out : Out) → IsFop m → IsFop new → Answers (ticked m) m new (Ok out) → KeepsRequests [] m new out
unfolding requests
ticks_requests m new out h n e = at_ticks requests m new out h n e

pub offers_requests : (m : Machine) (w : Waiting) (new : Machine) (out : Out) → IsFop m → IsFop new → Answers (offered m w) m new (Ok out) → KeepsRequests (w.request ∷ []) m new out
unfolding requests
offers_requests m w new out h n e = at_offers requests m w new out h n e

pub directives_requests : (m : Machine) (directive : Directive) (new : Machine) (out : Out) → IsFop m → IsFop new → Answers (directed m directive) m new (Ok out) → KeepsRequests [] m new out
unfolding requests
directives_requests m directive new out h n e = at_directives requests m directive new out h n e

pub words_order : (m : Machine) (word : Option Clcw) (new : Machine) (out : Out) → IsFop m → IsFop new → Answers (reported m word) m new (Ok out) → KeepsOrder [] m new out
unfolding order
words_order m word new out h n e = at_words order m word new out h n e

pub ticks_order : (m new : Machine) (out : Out) → IsFop m → IsFop new → Answers (ticked m) m new (Ok out) → KeepsOrder [] m new out
unfolding order
ticks_order m new out h n e = at_ticks order m new out h n e

pub offers_order : (m : Machine) (w : Waiting) (new : Machine) (out : Out) → IsFop m → IsFop new → Answers (offered m w) m new (Ok out) → KeepsOrder (w.request ∷ []) m new out
unfolding order
offers_order m w new out h n e = at_offers order m w new out h n e

pub directives_order : (m : Machine) (directive : Directive) (new : Machine) (out : Out) → IsFop m → IsFop new → Answers (directed m directive) m new (Ok out) → KeepsOrder [] m new out
unfolding order
directives_order m directive new out h n e = at_directives order m directive new out h n e
