-- What flies down after an event and after an act: what flew there and what was put behind it, with items left out.
use Rattle.std.proofs.Common.{◌≡◌, ℕ, inl, inr, Option, Some, None, List, [], ◌∷◌, ◌++◌, map, refl, sym, ◌∙◌, ap, subst, append_assoc, append-nil}
use Rattle.std.specs.Prelude.{MatchBool, Bool, true, false}
use Rattle.tc_types.specs.declared.link.frames.Frame.{Frame}
use Rattle.tc_types.specs.declared.link.directives.Directive.{Directive}
use Rattle.tc_types.specs.declared.link.reports.Report.{Report}
use Rattle.tc_types.specs.declared.link.reports.Report.TheVariants as report
use Rattle.tc_types.specs.declared.link.reports.Telemetry.{Telemetry}
use Rattle.tc_types.specs.declared.requests.Request.{Request}
use Rattle.tc_types.specs.declared.acts.LinkAct.{LinkAct}
use Rattle.tc_types.specs.declared.acts.LinkAct.TheVariants as link_act
use Rattle.tc_types.specs.declared.acts.StepAct.{StepAct}
use Rattle.tc_types.specs.declared.acts.Act.{Act}
use Rattle.tc_types.specs.declared.acts.Act.TheVariants as act
use Rattle.tc_farm.specs.declared.clcws.Clcw.{Clcw}
use Rattle.tc_farm.specs.ControlWord.{word_of}
use Rattle.tc_fop.specs.declared.signals.Indication.{Indication as Signal}
use Rattle.tc_fop.specs.Machine.{Action}
use Rattle.tc_fop.specs.Moves.{is_initiation}
use Rattle.tc_world.specs.declared.events.Event.{Event}
use Rattle.tc_world.specs.declared.events.Event.TheVariants as event
use Rattle.tc_world.specs.declared.events.LinkIndication.{LinkIndication}
use Rattle.tc_world.specs.declared.events.LinkIndication.TheVariants as said
use Rattle.tc_world.specs.Abstraction.{Bare, seen}
use Rattle.tc_world.specs.Links.{Kind, lossy}
use Rattle.tc_world.specs.Sublist.{IsSublist, IsSublist-same, IsSublist-behind}
use Rattle.tc_world.specs.World.{Whole, Happens, Hears, Carries, Begins, IsWordOf, told_of_loss, unjudged}
use Rattle.tc_world.proofs.Bridge.{OnlyLoses, readied_content, happens_seen}
use Rattle.tc_world.proofs.Lists.{sublist_trans, sublist_front, sublist_both}
use Rattle.tc_board.specs.Board.{work_reports}
use Rattle.tc_book.specs.declared.stamps.Stamp.{Stamp}
use Rattle.tc_book.specs.Book.{request_at}
use Rattle.tc_book.specs.Logs.{released_with}
use Rattle.tc_desk.specs.declared.firsts.FirstLine.{FirstLine}
use Rattle.tc_desk.specs.State.{State}
use Rattle.tc_desk.specs.Asks.{offer_at, has_buffer, taken_in, reports_after}
use Rattle.tc_desk.specs.Machine.{Happened, Passes, PutsDown, Reports, Boards, Flies, FliesBeside, Does}
use Rattle.tc_desk.specs.Downlink.{came_down, flying, MovesDown}

-- ---- one event

-- what an event puts on the downlink
abbrev pub PutBy : Event → Bare → List Report → Type 0
PutBy (event.Offer request body) w items = items ≡ []
PutBy (event.Directive given) w items = items ≡ []
PutBy event.Tick w items = items ≡ []
PutBy (event.Uplink free_buffer) w items = items ≡ []
PutBy (event.LoseUp place) w items = items ≡ []
PutBy event.Release w items = items ≡ []
PutBy event.Clcw w items = (clcw : Clcw) × IsWordOf w.farm w.vc clcw × (items ≡ report.Word (word_of clcw) ∷ [])
PutBy (event.Put telemetry) w items = items ≡ report.Telemetry telemetry ∷ []
PutBy event.Downlink w items = items ≡ []
PutBy (event.LoseDown place) w items = items ≡ []
PutBy event.Transmit w items = items ≡ []
PutBy (event.Hear item) w items = items ≡ []

-- what an event hears that was not in flight
abbrev pub outside : Event → List Report
outside (event.Offer request body) = []
outside (event.Directive given) = []
outside event.Tick = []
outside (event.Uplink free_buffer) = []
outside (event.LoseUp place) = []
outside event.Release = []
outside event.Clcw = []
outside (event.Put telemetry) = []
outside event.Downlink = []
outside (event.LoseDown place) = []
outside event.Transmit = []
outside (event.Hear item) = item ∷ []

pub record EventMoves (given : Event) (w v : Bare) (all : List LinkIndication) : Type 0 where
  pub put : List Report
  pub are : PutBy given w put
  pub rest : IsSublist (came_down all ++ v.down) (outside given ++ (w.down ++ put))

-- nothing came down, and nothing was put
stays_down : (w v : Bare) (all : List LinkIndication) → came_down all ≡ [] → IsSublist v.down w.down → IsSublist (came_down all ++ v.down) (w.down ++ [])
stays_down w v all none sub =
    subst (λ l. IsSublist (l ++ v.down) (w.down ++ [])) (sym none) (subst (IsSublist v.down) (sym (append-nil w.down)) sub)

same_down : (w v : Bare) → v.down ≡ w.down → IsSublist v.down w.down
same_down w v e = subst (λ l. IsSublist l w.down) (sym e) (IsSublist-same w.down)

fop_silent : (signals : List Signal) → came_down (map said.Fop signals) ≡ []
fop_silent [] = refl
fop_silent (first ∷ others) = refl

loss_silent : (found : Bool) → came_down (told_of_loss found) ≡ []
loss_silent true = refl
loss_silent false = refl

carries_down : (w v : Bare) (actions : List Action) (all : List LinkIndication) → Carries lossy actions w v all → IsSublist (came_down all ++ v.down) (w.down ++ [])
carries_down w v actions all h = stays_down w v all (ap came_down h.answered ∙ fop_silent _) (same_down w v (ap (λ (x : Bare). x.down) h.whole))

directs_down : (given : Directive) (w v : Bare) (actions : List Action) (all : List LinkIndication) (initiation : Bool)
    → MatchBool initiation (Begins lossy lossy given actions w v all) (Carries lossy actions w v all) → IsSublist (came_down all ++ v.down) (w.down ++ [])
directs_down given w v actions all true h = stays_down w v all (ap came_down h.answered ∙ fop_silent _) (same_down w v (ap (λ (x : Bare). x.down) h.whole))
directs_down given w v actions all false h = carries_down w v actions all h

-- what came down was the first that was not lost
hears_down : (item : Report) (w v : Bare) (left : List Report) (all : List LinkIndication) → Hears lossy item (record w { down = left }) v all
    → (came_down all ≡ item ∷ []) × (v.down ≡ left)
hears_down (report.Word word) w v left all (heard, actions, rest, reads, gives, h, answered) = (ap came_down answered, ap (λ (x : Bare). x.down) h.whole)
hears_down (report.Telemetry telemetry) w v left all (readied, whole, answered) = (ap came_down answered, ap (λ (x : Bare). x.down) whole)

lands_down : (item : Report) (w v : Bare) (lost left : List Report) (all : List LinkIndication) → w.down ≡ lost ++ item ∷ left → came_down all ≡ item ∷ [] → v.down ≡ left
    → IsSublist (came_down all ++ v.down) (w.down ++ [])
lands_down item w v lost left all taken came rest =
    subst (λ l. IsSublist (l ++ v.down) (w.down ++ [])) (sym came)
    (subst (λ l. IsSublist (item ∷ l) (w.down ++ [])) (sym rest)
    (subst (IsSublist (item ∷ left)) (sym (append-nil w.down ∙ taken)) (IsSublist-behind lost (item ∷ left))))

-- what was heard from outside comes down before all that flies
outside_down : (item : Report) (w v : Bare) (all : List LinkIndication) → Hears lossy item (record w { clean = false }) v all → IsSublist (came_down all ++ v.down) (item ∷ (w.down ++ []))
outside_down (report.Word word) w v all (heard, actions, rest, reads, gives, h, answered) =
    subst (λ l. IsSublist (l ++ v.down) (report.Word word ∷ (w.down ++ []))) (sym (ap came_down answered))
    (inr (v.down, refl, stays_down w v [] refl (same_down w v (ap (λ (x : Bare). x.down) h.whole))))
outside_down (report.Telemetry telemetry) w v all (readied, whole, answered) =
    subst (λ l. IsSublist (l ++ v.down) (report.Telemetry telemetry ∷ (w.down ++ []))) (sym (ap came_down answered))
    (inr (v.down, refl, stays_down w v [] refl (same_down w v (ap (λ (x : Bare). x.down) whole))))

pub event_down : (given : Event) (w v : Bare) (all : List LinkIndication) → Happens lossy lossy given w v all → EventMoves given w v all
event_down (event.Offer request body) w v all (actions, unknown, gives, h) = record { put = []; are = refl; rest = carries_down w v actions all h }
event_down (event.Directive given) w v all (actions, gives, h, fits, level) = record { put = []; are = refl; rest = directs_down given w (unjudged w v) actions all (is_initiation given) h }
event_down event.Tick w v all (actions, gives, h) = record { put = []; are = refl; rest = carries_down w v actions all h }
event_down (event.Uplink room) w v all (inl (nothing, h)) = record { put = []; are = refl; rest = stays_down w v all (ap came_down h.answered) (same_down w v h.same.down) }
event_down (event.Uplink room) w v all (inr h) = record { put = []; are = refl; rest = stays_down w v all (ap came_down h.answered) (same_down w v (ap (λ (x : Bare). x.down) h.whole)) }
event_down (event.LoseUp place) w v all h = record { put = []; are = refl; rest = stays_down w v all (ap came_down h.answered ∙ loss_silent h.found) (same_down w v (ap (λ (x : Bare). x.down) h.whole)) }
event_down event.Release w v all (whole, answered) = record { put = []; are = refl; rest = stays_down w v all (ap came_down answered) (same_down w v (ap (λ (x : Bare). x.down) whole)) }
event_down event.Clcw w v all (clcw, is_word, h) = record {
  put = report.Word (word_of clcw) ∷ [];
  are = (clcw, is_word, refl);
  rest = subst (λ l. IsSublist (came_down l ++ v.down) (w.down ++ report.Word (word_of clcw) ∷ [])) (sym h.answered) (subst (λ l. IsSublist v.down (l ++ report.Word (word_of clcw) ∷ [])) h.readied h.put);
}
event_down (event.Put telemetry) w v all h = record {
  put = report.Telemetry telemetry ∷ [];
  are = refl;
  rest = subst (λ l. IsSublist (came_down l ++ v.down) (w.down ++ report.Telemetry telemetry ∷ [])) (sym h.answered) (subst (λ l. IsSublist v.down (l ++ report.Telemetry telemetry ∷ [])) h.readied h.put);
}
event_down event.Downlink w v all (inl (nothing, h)) = record { put = []; are = refl; rest = stays_down w v all (ap came_down h.answered) (same_down w v h.same.down) }
event_down event.Downlink w v all (inr h) =
    let heard = hears_down h.item w v h.left all h.heard in
    record { put = []; are = refl; rest = lands_down h.item w v h.taken.0 h.left all h.taken.1 heard.0 heard.1 }
event_down (event.LoseDown place) w v all h = record { put = []; are = refl; rest = stays_down w v all (ap came_down h.answered ∙ loss_silent h.found) h.lost }
event_down event.Transmit w v all (inl (nothing, h)) = record { put = []; are = refl; rest = stays_down w v all (ap came_down h.answered) (same_down w v h.same.down) }
event_down event.Transmit w v all (inr h) = record { put = []; are = refl; rest = stays_down w v all (ap came_down h.answered) (same_down w v (ap (λ (x : Bare). x.down) h.whole)) }
event_down (event.Hear item) w v all h = record { put = []; are = refl; rest = outside_down item w v all h }

-- ---- acts

-- one event over links of any kind that only lose
pub happened_down : {U D : Type 0} (up : Kind U Frame) (down : Kind D Report) → OnlyLoses up → OnlyLoses down → (given : Event) (w v : Whole U D) (all : List LinkIndication)
    → Happened up down given w v all → EventMoves given (seen up down w) (seen up down v) all
happened_down up down ul dl given w v all h = event_down given (seen up down w) (seen up down v) all (happens_seen up down ul dl given w v all h.happens)

-- reports that are put, one after the other
puts_down : {U D : Type 0} (up : Kind U Frame) (down : Kind D Report) → OnlyLoses up → OnlyLoses down → (items : List Telemetry) (w v : Whole U D)
    → PutsDown up down items w v → IsSublist (down.content v.down) (down.content w.down ++ flying items)
puts_down {U} {D} up down ul dl [] w v same =
    subst (λ (x : Whole U D). IsSublist (down.content x.down) (down.content w.down ++ [])) (sym same) (subst (IsSublist (down.content w.down)) (sym (append-nil (down.content w.down))) (IsSublist-same (down.content w.down)))
puts_down up down ul dl (item ∷ items) w v puts =
    let next = puts.0 in
    let one = happened_down up down ul dl (event.Put item) w next [] puts.1 in
    let here : IsSublist (down.content next.down) (down.content w.down ++ report.Telemetry item ∷ []) = subst (λ l. IsSublist (down.content next.down) (down.content w.down ++ l)) one.are one.rest in
    let rest = puts_down up down ul dl items next v puts.2 in
    let both = sublist_both (down.content next.down) (down.content w.down ++ report.Telemetry item ∷ []) (flying items) (flying items) here (IsSublist-same (flying items)) in
    subst (IsSublist (down.content v.down)) (append_assoc (down.content w.down) (report.Telemetry item ∷ []) (flying items))
    (sublist_trans (down.content v.down) (down.content next.down ++ flying items) ((down.content w.down ++ report.Telemetry item ∷ []) ++ flying items) rest both)

reports_down : {U D : Type 0} (up : Kind U Frame) (down : Kind D Report) → OnlyLoses up → OnlyLoses down → (items : List Telemetry) (w v : Whole U D)
    → Reports up down items w v → IsSublist (down.content v.down) (down.content w.down ++ flying items)
reports_down up down ul dl items w v reports =
    subst (λ l. IsSublist (down.content v.down) (l ++ flying items)) (readied_content down dl w.down reports.ready.down reports.readied.down) (puts_down up down ul dl items reports.ready v reports.put)

-- nothing was asked of the link
none_down : {U D : Type 0} (down : Kind D Report) (w v : Whole U D) (all : List LinkIndication) → (v ≡ w) × (all ≡ []) → IsSublist (came_down all ++ down.content v.down) (down.content w.down ++ [])
none_down {U} {D} down w v all same =
    subst (λ l. IsSublist (came_down l ++ down.content v.down) (down.content w.down ++ [])) (sym same.1)
    (subst (λ (x : Whole U D). IsSublist (down.content x.down) (down.content w.down ++ [])) (sym same.0)
    (subst (IsSublist (down.content w.down)) (sym (append-nil (down.content w.down))) (IsSublist-same (down.content w.down))))

-- of an event that puts nothing
quiet_down : {U D : Type 0} (up : Kind U Frame) (down : Kind D Report) → OnlyLoses up → OnlyLoses down → (given : Event) (w v : Whole U D) (all : List LinkIndication)
    → outside given ≡ [] → ((items : List Report) → PutBy given (seen up down w) items → items ≡ []) → Happened up down given w v all → IsSublist (came_down all ++ down.content v.down) (down.content w.down ++ [])
quiet_down up down ul dl given w v all own none h =
    let moves = happened_down up down ul dl given w v all h in
    subst (λ l. IsSublist (came_down all ++ down.content v.down) (l ++ (down.content w.down ++ []))) own
    (subst (λ l. IsSublist (came_down all ++ down.content v.down) (outside given ++ (down.content w.down ++ l))) (none moves.put moves.are) moves.rest)

offer_down : {U D : Type 0} (up : Kind U Frame) (down : Kind D Report) → OnlyLoses up → OnlyLoses down → (n : ℕ) (old new : State U D) (all : List LinkIndication) (asked : Option Request)
    → Passes up down (offer_at old.book n asked) old.world new.world all → IsSublist (came_down all ++ down.content new.world.down) (down.content old.world.down ++ [])
offer_down up down ul dl n old new all None passes = none_down down old.world new.world all passes
offer_down up down ul dl n old new all (Some request) passes = quiet_down up down ul dl _ old.world new.world all refl (λ items e. e) passes

-- a frame comes on board, and its report is put
boards_down : {U D : Type 0} (up : Kind U Frame) (down : Kind D Report) → OnlyLoses up → OnlyLoses down → (old new : State U D) (all : List LinkIndication)
    → Boards up down old new all → IsSublist (came_down all ++ down.content new.world.down) (down.content old.world.down ++ flying (reports_after (taken_in all)))
boards_down up down ul dl old new all boards =
    let items : List Report = flying (reports_after (taken_in all)) in
    let came : List Report = came_down all in
    let here = quiet_down up down ul dl (event.Uplink (has_buffer old.board)) boards.ready boards.carried all refl (λ items e. e) boards.frame in
    let flew : IsSublist (came ++ down.content boards.carried.down) (down.content old.world.down) = subst (IsSublist (came ++ down.content boards.carried.down)) (append-nil (down.content boards.ready.down) ∙ readied_content down dl old.world.down boards.ready.down boards.readied.down) here in
    let puts = puts_down up down ul dl (reports_after (taken_in all)) boards.carried new.world boards.reports in
    let front = sublist_front came (down.content new.world.down) (down.content boards.carried.down ++ items) puts in
    let both = sublist_both (came ++ down.content boards.carried.down) (down.content old.world.down) items items flew (IsSublist-same items) in
    sublist_trans (came ++ down.content new.world.down) (came ++ (down.content boards.carried.down ++ items)) (down.content old.world.down ++ items) front
    (subst (λ l. IsSublist l (down.content old.world.down ++ items)) (append_assoc came (down.content boards.carried.down) items) both)

flight_down : {U D : Type 0} (up : Kind U Frame) (down : Kind D Report) → OnlyLoses up → OnlyLoses down → (given : LinkAct) (old new : State U D) (all : List LinkIndication)
    → Flies up down given old new all → MovesDown down (act.Link given) old new all
flight_down up down ul dl (link_act.Release n) old new all flies = record { put = []; are = refl; rest = offer_down up down ul dl n old new all (request_at old.book n) flies.0 }
flight_down up down ul dl (link_act.Direct given) old new all flies = record { put = []; are = refl; rest = quiet_down up down ul dl (event.Directive given) old.world new.world all refl (λ items e. e) flies.0 }
flight_down up down ul dl link_act.Tick old new all flies = record { put = []; are = refl; rest = quiet_down up down ul dl event.Tick old.world new.world all refl (λ items e. e) flies.0 }
flight_down up down ul dl link_act.Up old new all flies = record { put = flying (reports_after (taken_in all)); are = refl; rest = boards_down up down ul dl old new all flies }
flight_down up down ul dl (link_act.LoseUp place) old new all flies = record { put = []; are = refl; rest = quiet_down up down ul dl (event.LoseUp place) old.world new.world all refl (λ items e. e) flies.0 }
flight_down up down ul dl (link_act.LoseDown place) old new all flies = record { put = []; are = refl; rest = quiet_down up down ul dl (event.LoseDown place) old.world new.world all refl (λ items e. e) flies.0 }
flight_down up down ul dl link_act.Clcw old new all flies =
    let moves = happened_down up down ul dl event.Clcw old.world new.world all flies.0 in
    record { put = moves.put; are = moves.are; rest = moves.rest }
flight_down up down ul dl link_act.Down old new all flies = record { put = []; are = refl; rest = quiet_down up down ul dl event.Downlink old.world new.world all refl (λ items e. e) flies.0 }
flight_down {U} {D} up down ul dl link_act.Work old new all flies =
    let items : List Report = flying (work_reports old.board old.board.buffer) in
    let puts = reports_down up down ul dl (work_reports old.board old.board.buffer) old.world flies.reported flies.reports in
    let freed : down.content new.world.down ≡ down.content flies.reported.down = ap (λ (x : Whole U D). down.content x.down) flies.free.happens.0 in
    record {
      put = items;
      are = refl;
      rest = subst (λ l. IsSublist (came_down l ++ down.content new.world.down) (down.content old.world.down ++ items)) (sym flies.silent)
          (subst (λ l. IsSublist l (down.content old.world.down ++ items)) (sym freed) puts);
    }
flight_down up down ul dl (link_act.Clock time) old new all flies = record {
  put = flying flies.items;
  are = (flies.items, flies.due, refl);
  rest = subst (λ l. IsSublist (came_down l ++ down.content new.world.down) (down.content old.world.down ++ flying flies.items)) (sym flies.silent) (reports_down up down ul dl flies.items old.world new.world flies.reports);
}

-- a step, and the release that comes with it, if one does
beside_down : {U D : Type 0} (up : Kind U Frame) (down : Kind D Report) → OnlyLoses up → OnlyLoses down → (given : StepAct) (beside : Option ℕ) (old new : State U D) (all : List LinkIndication)
    → FliesBeside up down beside old new all → MovesDown down (act.Step given) old new all
beside_down up down ul dl given None old new all stands = record { put = []; are = refl; rest = none_down down old.world new.world all (stands.0, stands.3) }
beside_down up down ul dl given (Some n) old new all flies = record { put = []; are = refl; rest = offer_down up down ul dl n old new all (request_at old.book n) flies.0 }

-- an act
pub does_down : {U D : Type 0} (up : Kind U Frame) (down : Kind D Report) → OnlyLoses up → OnlyLoses down → (stamp : Stamp) (given : Act) (old new : State U D) (all : List LinkIndication) (first : FirstLine)
    → Does up down stamp given old new all first → MovesDown down given old new all
does_down up down ul dl stamp (act.Book given) old new all first does = record { put = []; are = refl; rest = none_down down old.world new.world all (does.link.0, does.link.3) }
does_down up down ul dl stamp (act.Link given) old new all first does = flight_down up down ul dl given old new all does.link
does_down up down ul dl stamp (act.Step given) old new all first does = beside_down up down ul dl given (released_with old.book given) old new all does.link
does_down {U} {D} up down ul dl stamp (act.Ask asked) old new all first does =
    record { put = []; are = refl; rest = none_down down old.world new.world all (ap (λ (at : State U D). at.world) does.link.0, does.link.1) }
