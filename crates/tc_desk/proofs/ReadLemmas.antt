-- How reports are read into the mirror of the schedule, each with the command that flew.
use Rattle.std.proofs.Common.{◌≡◌, ℕ, Bool, true, false, MatchBool, List, [], ◌∷◌, map, refl, sym, ◌∙◌, ap, ⊎_elim}
use Rattle.std.specs.List.{AllByRecursion}
use Rattle.tc_types.specs.declared.link.directives.Directive.{Directive}
use Rattle.tc_types.specs.declared.link.frames.Frame.{Frame}
use Rattle.tc_types.specs.declared.link.reports.Report.{Report}
use Rattle.tc_types.specs.declared.link.reports.Report.TheVariants as report
use Rattle.tc_types.specs.declared.link.reports.Telemetry.{Telemetry}
use Rattle.tc_types.specs.declared.link.reports.Telemetry.TheVariants as telemetry
use Rattle.tc_fop.specs.declared.signals.Indication.{Indication as Signal}
use Rattle.tc_fop.specs.Machine.{Action, output}
use Rattle.tc_fop.specs.Moves.{is_initiation}
use Rattle.tc_world.specs.declared.events.Event.{Event}
use Rattle.tc_world.specs.declared.events.Event.TheVariants as event
use Rattle.tc_world.specs.declared.events.LinkIndication.{LinkIndication}
use Rattle.tc_world.specs.declared.events.LinkIndication.TheVariants as said
use Rattle.tc_world.specs.Links.{Kind}
use Rattle.tc_world.specs.World.{Whole, Happens, IsIdle, Boards, Begins, Carries, Transmits, told_of_loss, unjudged}
use Rattle.tc_world.proofs.AllLists.{all_made}
use Rattle.tc_board.specs.Follows.{with_command, read_all}
use Rattle.tc_board.specs.Mirror.{MirrorState, mirror_after}
use Rattle.tc_board.specs.Names.{IsNamed}
use Rattle.tc_book.specs.Book.{Book}
use Rattle.tc_desk.specs.Asks.{brings_down, command_told, mirror_by}
use Rattle.tc_desk.specs.Commands.{command_at}
use Rattle.tc_desk.specs.Downlink.{came_down, flying}
use Rattle.tc_desk.specs.Followed.{roll_of, IsNamedDown, mirror_through}

-- ---- what flies down

-- what names one of which K holds names one of which L holds, where that follows
pub named_down_weaker : (K L : ℕ → Type 0) → ((n : ℕ) → K n → L n) → (item : Report) → IsNamedDown K item → IsNamedDown L item
named_down_weaker K L may (report.Word word) named = tt
named_down_weaker K L may (report.Telemetry (telemetry.Verification verification n identity)) named = may n named
named_down_weaker K L may (report.Telemetry (telemetry.Summary summary)) named = tt

-- reports fly as they were made
pub flying_named : (K : ℕ → Type 0) (made : List Telemetry) → AllByRecursion (IsNamed K) made → AllByRecursion (IsNamedDown K) (flying made)
flying_named K made named = all_made (IsNamed K) (IsNamedDown K) report.Telemetry made (λ item h. h) named

-- ---- what is read

-- reports that fly are read as the ground knows each request
pub flying_read : (book : Book) (sent : List ℕ) (made : List Telemetry) (m : MirrorState) → mirror_through book (flying made) m ≡ read_all (roll_of book sent) m made
flying_read book sent [] m = refl
flying_read book sent (telemetry.Verification verification n identity ∷ made) m =
    flying_read book sent made (mirror_after m (report.Telemetry (telemetry.Verification verification n identity), command_at book n))
flying_read book sent (telemetry.Summary summary ∷ made) m = flying_read book sent made (mirror_after m (with_command (roll_of book sent) (telemetry.Summary summary)))

-- what names those of which two books say the same is read alike
pub through_agrees : (K : ℕ → Type 0) (old new : Book) (items : List Report) (m : MirrorState) → ((n : ℕ) → K n → command_at new n ≡ command_at old n) → AllByRecursion (IsNamedDown K) items
    → mirror_through new items m ≡ mirror_through old items m
through_agrees K old new [] m same named = refl
through_agrees K old new (report.Word word ∷ items) m same named = through_agrees K old new items m same named.1
through_agrees K old new (report.Telemetry (telemetry.Verification verification n identity) ∷ items) m same named =
    ap (λ given. mirror_through new items (mirror_after m (report.Telemetry (telemetry.Verification verification n identity), given))) (same n named.0)
    ∙ through_agrees K old new items (mirror_after m (report.Telemetry (telemetry.Verification verification n identity), command_at old n)) same named.1
through_agrees K old new (report.Telemetry (telemetry.Summary summary) ∷ items) m same named =
    through_agrees K old new items (mirror_after m (report.Telemetry (telemetry.Summary summary), command_told old (report.Telemetry (telemetry.Summary summary)))) same named.1

-- the command of what came down is the same
told_alike : (old new : Book) (item : Report) → ((n : ℕ) → command_at new n ≡ command_at old n) → command_told old item ≡ command_told new item
told_alike old new (report.Word word) same = refl
told_alike old new (report.Telemetry (telemetry.Verification verification n identity)) same = sym (same n)
told_alike old new (report.Telemetry (telemetry.Summary summary)) same = refl

-- a mirror that reads what the link tells reads what came down
pub mirror_by_through : (old new : Book) (all : List LinkIndication) (m : MirrorState) → ((n : ℕ) → command_at new n ≡ command_at old n) → mirror_by old all m ≡ mirror_through new (came_down all) m
mirror_by_through old new [] m same = refl
mirror_by_through old new (said.Fop i ∷ others) m same = refl
mirror_by_through old new (said.Farm verdict ∷ others) m same = refl
mirror_by_through old new (said.Received item ∷ others) m same = ap (λ given. mirror_after m (item, given)) (told_alike old new item same)
mirror_by_through old new (said.Lost ∷ others) m same = refl
mirror_by_through old new (said.Transmitted frame ∷ others) m same = refl

-- ---- nothing comes down but at a reading

signals_bring_none : (signals : List Signal) (all : List LinkIndication) → all ≡ map said.Fop signals → came_down all ≡ []
signals_bring_none [] all e = ap came_down e
signals_bring_none (signal ∷ signals) all e = ap came_down e

loss_brings_none : (found : Bool) → came_down (told_of_loss found) ≡ []
loss_brings_none true = refl
loss_brings_none false = refl

directed_brings_none : {U D : Type 0} (up : Kind U Frame) (down : Kind D Report) (given : Directive) (actions : List Action) (old new : Whole U D) (all : List LinkIndication) (starts : Bool)
    → MatchBool starts (Begins up down given actions old new all) (Carries up actions old new all) → came_down all ≡ []
directed_brings_none up down given actions old new all true begins = signals_bring_none (output actions old.fop).indications all begins.answered
directed_brings_none up down given actions old new all false carries = signals_bring_none (output actions old.fop).indications all carries.answered

-- at every other event
pub brings_none : {U D : Type 0} (up : Kind U Frame) (down : Kind D Report) (given : Event) (old new : Whole U D) (all : List LinkIndication) → brings_down given ≡ false → Happens up down given old new all → came_down all ≡ []
brings_none up down (event.Offer request body) old new all quiet h = signals_bring_none (output h.0 old.fop).indications all h.3.answered
brings_none up down (event.Directive given) old new all quiet h = directed_brings_none up down given h.0 old (unjudged old new) all (is_initiation given) h.2
brings_none up down event.Tick old new all quiet h = signals_bring_none (output h.0 old.fop).indications all h.2.answered
brings_none up down (event.Uplink free_buffer) old new all quiet h = ⊎_elim
    (λ (idle : (up.content old.up ≡ []) × IsIdle up down old new all). ap came_down idle.1.answered)
    (λ (boards : Boards up free_buffer old new all). ap came_down boards.answered)
    h
brings_none up down (event.LoseUp place) old new all quiet h = ap came_down h.answered ∙ loss_brings_none h.found
brings_none up down event.Release old new all quiet h = ap came_down h.1
brings_none up down event.Clcw old new all quiet h = ap came_down h.2.answered
brings_none up down (event.Put item) old new all quiet h = ap came_down h.answered
brings_none up down event.Downlink old new all quiet h = cc
brings_none up down (event.LoseDown place) old new all quiet h = ap came_down h.answered ∙ loss_brings_none h.found
brings_none up down event.Transmit old new all quiet h = ⊎_elim
    (λ (idle : (up.content old.up ≡ []) × IsIdle up down old new all). ap came_down idle.1.answered)
    (λ (goes : Transmits up old new all). ap came_down goes.answered)
    h
brings_none up down (event.Hear item) old new all quiet h = cc
