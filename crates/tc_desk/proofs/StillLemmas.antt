-- The book hears nothing of events at which no request moves.
use Rattle.std.proofs.Common.{◌≡◌, Bool, true, false, MatchBool, List, [], ◌∷◌, map, refl, sym, ◌∙◌, ap, subst, inl, inr, ⊎_elim}
use Rattle.std.specs.List.{list_any}
use Rattle.tc_types.specs.declared.link.frames.Frame.{Frame}
use Rattle.tc_types.specs.declared.link.directives.Directive.{Directive}
use Rattle.tc_types.specs.declared.link.reports.Report.{Report}
use Rattle.tc_types.specs.declared.link.reports.Report.TheVariants as report
use Rattle.tc_fop.specs.declared.signals.Indication.{Indication as Signal}
use Rattle.tc_fop.specs.declared.signals.Indication.TheVariants as signal
use Rattle.tc_fop.specs.Machine.{Action, output}
use Rattle.tc_fop.specs.Moves.{is_initiation}
use Rattle.tc_world.specs.declared.events.Event.{Event}
use Rattle.tc_world.specs.declared.events.Event.TheVariants as event
use Rattle.tc_world.specs.declared.events.LinkIndication.{LinkIndication}
use Rattle.tc_world.specs.declared.events.LinkIndication.TheVariants as said
use Rattle.tc_world.specs.Links.{Kind}
use Rattle.tc_world.specs.World.{Whole, Happens, Hears, Lands, IsIdle, Boards, Begins, Carries, Transmits, told_of_loss, may_move, tells_move, unjudged}
use Rattle.tc_book.specs.declared.stamps.Stamp.{Stamp}
use Rattle.tc_book.specs.Book.{Book}
use Rattle.tc_board.specs.Mirror.{MirrorState}
use Rattle.tc_desk.specs.Asks.{brings_down}
use Rattle.tc_desk.specs.Effects.{heard_all, tells_report, ComesAlone}

-- signals of which none tells a move
signals_still : (stamp : Stamp) (mirror : MirrorState) (book : Book) (signals : List Signal) → list_any tells_move (map said.Fop signals) ≡ false → heard_all stamp mirror (map said.Fop signals) book ≡ book
signals_still stamp mirror book [] still = refl
signals_still stamp mirror book (signal.Sent n ∷ signals) still = cc
signals_still stamp mirror book (signal.Confirmed n ∷ signals) still = cc
signals_still stamp mirror book (signal.GivenBack n ∷ signals) still = cc
signals_still stamp mirror book (signal.InDoubt n ∷ signals) still = cc
signals_still stamp mirror book (signal.Alert kind ∷ signals) still = signals_still stamp mirror book signals still
signals_still stamp mirror book (signal.Started ∷ signals) still = signals_still stamp mirror book signals still

-- a list that is what the FOP tells
told_still : (stamp : Stamp) (mirror : MirrorState) (book : Book) (signals : List Signal) (all : List LinkIndication) → all ≡ map said.Fop signals → list_any tells_move all ≡ false → heard_all stamp mirror all book ≡ book
told_still stamp mirror book signals all e still =
    ap (λ l. heard_all stamp mirror l book) e ∙ signals_still stamp mirror book signals (ap (λ l. list_any tells_move l) (sym e) ∙ still)

loss_still : (stamp : Stamp) (mirror : MirrorState) (book : Book) (found : Bool) → heard_all stamp mirror (told_of_loss found) book ≡ book
loss_still stamp mirror book true = refl
loss_still stamp mirror book false = refl

directed_still : {U D : Type 0} (up : Kind U Frame) (down : Kind D Report) (given : Directive) (actions : List Action) (old new : Whole U D) (all : List LinkIndication) (stamp : Stamp) (mirror : MirrorState) (book : Book) (starts : Bool)
    → list_any tells_move all ≡ false → MatchBool starts (Begins up down given actions old new all) (Carries up actions old new all) → heard_all stamp mirror all book ≡ book
directed_still up down given actions old new all stamp mirror book true still begins = told_still stamp mirror book (output actions old.fop).indications all begins.answered still
directed_still up down given actions old new all stamp mirror book false still carries = told_still stamp mirror book (output actions old.fop).indications all carries.answered still

pub silent : {U D : Type 0} (up : Kind U Frame) (down : Kind D Report) (given : Event) (old new : Whole U D) (all : List LinkIndication) (stamp : Stamp) (mirror : MirrorState) (book : Book)
    → may_move given ≡ false → list_any tells_move all ≡ false → Happens up down given old new all → heard_all stamp mirror all book ≡ book
silent up down (event.Offer request body) old new all stamp mirror book quiet still h = cc
silent up down (event.Directive given) old new all stamp mirror book quiet still h = directed_still up down given h.0 old (unjudged old new) all stamp mirror book (is_initiation given) still h.2
silent up down event.Tick old new all stamp mirror book quiet still h = cc
silent up down (event.Uplink free_buffer) old new all stamp mirror book quiet still h = ⊎_elim
    (λ (idle : (up.content old.up ≡ []) × IsIdle up down old new all). ap (λ l. heard_all stamp mirror l book) idle.1.answered)
    (λ (boards : Boards up free_buffer old new all). ap (λ l. heard_all stamp mirror l book) boards.answered)
    h
silent up down (event.LoseUp place) old new all stamp mirror book quiet still h = ap (λ l. heard_all stamp mirror l book) h.answered ∙ loss_still stamp mirror book h.found
silent up down event.Release old new all stamp mirror book quiet still h = ap (λ l. heard_all stamp mirror l book) h.1
silent up down event.Clcw old new all stamp mirror book quiet still h = ap (λ l. heard_all stamp mirror l book) h.2.answered
silent up down (event.Put item) old new all stamp mirror book quiet still h = ap (λ l. heard_all stamp mirror l book) h.answered
silent up down event.Downlink old new all stamp mirror book quiet still h = cc
silent up down (event.LoseDown place) old new all stamp mirror book quiet still h = ap (λ l. heard_all stamp mirror l book) h.answered ∙ loss_still stamp mirror book h.found
silent up down event.Transmit old new all stamp mirror book quiet still h = ⊎_elim
    (λ (idle : (up.content old.up ≡ []) × IsIdle up down old new all). ap (λ l. heard_all stamp mirror l book) idle.1.answered)
    (λ (goes : Transmits up old new all). ap (λ l. heard_all stamp mirror l book) goes.answered)
    h
silent up down (event.Hear item) old new all stamp mirror book quiet still h = cc

-- ---- reports come down alone

signals_no_report : (signals : List Signal) → list_any tells_report (map said.Fop signals) ≡ false
signals_no_report [] = refl
signals_no_report (signal ∷ signals) = signals_no_report signals

told_no_report : (signals : List Signal) (all : List LinkIndication) → all ≡ map said.Fop signals → list_any tells_report all ≡ false
told_no_report signals all e = ap (λ l. list_any tells_report l) e ∙ signals_no_report signals

loss_no_report : (found : Bool) → list_any tells_report (told_of_loss found) ≡ false
loss_no_report true = refl
loss_no_report false = refl

directed_no_report : {U D : Type 0} (up : Kind U Frame) (down : Kind D Report) (given : Directive) (actions : List Action) (old new : Whole U D) (all : List LinkIndication) (starts : Bool)
    → MatchBool starts (Begins up down given actions old new all) (Carries up actions old new all) → list_any tells_report all ≡ false
directed_no_report up down given actions old new all true begins = told_no_report (output actions old.fop).indications all begins.answered
directed_no_report up down given actions old new all false carries = told_no_report (output actions old.fop).indications all carries.answered

pub no_report : {U D : Type 0} (up : Kind U Frame) (down : Kind D Report) (given : Event) (old new : Whole U D) (all : List LinkIndication)
    → brings_down given ≡ false → Happens up down given old new all → list_any tells_report all ≡ false
no_report up down (event.Offer request body) old new all quiet h = told_no_report (output h.0 old.fop).indications all h.3.answered
no_report up down (event.Directive given) old new all quiet h = directed_no_report up down given h.0 old (unjudged old new) all (is_initiation given) h.2
no_report up down event.Tick old new all quiet h = told_no_report (output h.0 old.fop).indications all h.2.answered
no_report up down (event.Uplink free_buffer) old new all quiet h = ⊎_elim
    (λ (idle : (up.content old.up ≡ []) × IsIdle up down old new all). ap (λ l. list_any tells_report l) idle.1.answered)
    (λ (boards : Boards up free_buffer old new all). ap (λ l. list_any tells_report l) boards.answered)
    h
no_report up down (event.LoseUp place) old new all quiet h = ap (λ l. list_any tells_report l) h.answered ∙ loss_no_report h.found
no_report up down event.Release old new all quiet h = ap (λ l. list_any tells_report l) h.1
no_report up down event.Clcw old new all quiet h = ap (λ l. list_any tells_report l) h.2.answered
no_report up down (event.Put item) old new all quiet h = ap (λ l. list_any tells_report l) h.answered
no_report up down event.Downlink old new all quiet h = cc
no_report up down (event.LoseDown place) old new all quiet h = ap (λ l. list_any tells_report l) h.answered ∙ loss_no_report h.found
no_report up down event.Transmit old new all quiet h = ⊎_elim
    (λ (idle : (up.content old.up ≡ []) × IsIdle up down old new all). ap (λ l. list_any tells_report l) idle.1.answered)
    (λ (goes : Transmits up old new all). ap (λ l. list_any tells_report l) goes.answered)
    h
no_report up down (event.Hear item) old new all quiet h = cc

-- what comes down
landed_alone : {U D : Type 0} (up : Kind U Frame) (item : Report) (old new : Whole U D) (all : List LinkIndication) → Hears up item old new all → ComesAlone all
landed_alone up (report.Word word) old new all h =
    inl (ap (λ l. list_any tells_report l) h.6 ∙ told_no_report (output h.1 old.fop).indications h.2 h.5.answered)
landed_alone up (report.Telemetry item) old new all h = inr (item, h.2)

pub comes_alone : {U D : Type 0} (up : Kind U Frame) (down : Kind D Report) (given : Event) (old new : Whole U D) (all : List LinkIndication) → Happens up down given old new all → ComesAlone all
comes_alone up down given old new all h = by_event given refl
  where
    by_event : (e : Event) → given ≡ e → ComesAlone all
    by_event (event.Offer request body) same = inl (no_report up down given old new all (ap brings_down same) h)
    by_event (event.Directive directive) same = inl (no_report up down given old new all (ap brings_down same) h)
    by_event event.Tick same = inl (no_report up down given old new all (ap brings_down same) h)
    by_event (event.Uplink free_buffer) same = inl (no_report up down given old new all (ap brings_down same) h)
    by_event (event.LoseUp place) same = inl (no_report up down given old new all (ap brings_down same) h)
    by_event event.Release same = inl (no_report up down given old new all (ap brings_down same) h)
    by_event event.Clcw same = inl (no_report up down given old new all (ap brings_down same) h)
    by_event (event.Put item) same = inl (no_report up down given old new all (ap brings_down same) h)
    by_event (event.LoseDown place) same = inl (no_report up down given old new all (ap brings_down same) h)
    by_event event.Transmit same = inl (no_report up down given old new all (ap brings_down same) h)
    by_event (event.Hear item) same = landed_alone up item (record old { clean = false }) new all (subst (λ e. Happens up down e old new all) same h)
    by_event event.Downlink same = ⊎_elim
        (λ (idle : (down.content old.down ≡ []) × IsIdle up down old new all). inl (ap (λ l. list_any tells_report l) idle.1.answered))
        (λ (lands : Lands up down old new all). landed_alone up lands.item (record old { down = lands.left }) new all lands.heard)
        (subst (λ e. Happens up down e old new all) same h)
