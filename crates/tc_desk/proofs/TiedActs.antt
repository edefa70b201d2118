-- Each act keeps the tie between book and link.
use Rattle.std.proofs.Common.{◌≡◌, ℕ, ◌<◌, ◌≤◌, ◌==◌, true, Option, Some, None, List, [], ◌∷◌, ◌++◌, length, map, refl, sym, ◌∙◌, ap, subst, append-nil, arith}
use Rattle.std.specs.List.{flat_map}
use Rattle.tc_types.specs.declared.link.frames.Frame.{Frame}
use Rattle.tc_types.specs.declared.link.reports.Report.{Report}
use Rattle.tc_types.specs.declared.link.reports.Telemetry.{Telemetry}
use Rattle.tc_types.specs.declared.requests.Request.{Request}
use Rattle.tc_types.specs.declared.acts.LinkAct.{LinkAct}
use Rattle.tc_types.specs.declared.acts.LinkAct.TheVariants as link_act
use Rattle.tc_types.specs.declared.acts.StepAct.{StepAct}
use Rattle.tc_types.specs.declared.acts.Act.{Act}
use Rattle.tc_types.specs.declared.acts.Act.TheVariants as act
use Rattle.tc_fop.specs.Machine.{Machine, Waiting, option_list}
use Rattle.tc_fop.specs.Views.{view_of}
use Rattle.tc_fop.specs.Requests.{waiting_requests}
use Rattle.tc_world.specs.declared.events.Event.{Event}
use Rattle.tc_world.specs.declared.events.Event.TheVariants as event
use Rattle.tc_world.specs.declared.events.LinkIndication.{LinkIndication}
use Rattle.tc_world.specs.Kept.{Each}
use Rattle.tc_world.specs.Links.{Kind}
use Rattle.tc_world.specs.Telling.{TellsRequests, offered_by, sent_said}
use Rattle.tc_world.specs.Window.{all_confirmed}
use Rattle.tc_world.specs.World.{Whole, IsAsBefore, all_sent}
use Rattle.tc_book.specs.declared.stamps.Stamp.{Stamp}
use Rattle.tc_book.specs.Book.{Book, request_at}
use Rattle.tc_book.specs.Good.{IsGoodBook}
use Rattle.tc_book.specs.Acts.{first_refusal, acted as book_acted}
use Rattle.tc_book.specs.Logs.{step_tests, recorded, released_with}
use Rattle.tc_desk.specs.declared.firsts.FirstLine.{FirstLine}
use Rattle.tc_board.specs.Mirror.{MirrorState, no_mirror}
use Rattle.tc_desk.specs.Commands.{activities_at, payload_of}
use Rattle.tc_desk.specs.State.{State, widest_k}
use Rattle.tc_desk.specs.Asks.{offer_at, has_buffer, taken_in, reports_after}
use Rattle.tc_desk.specs.Effects.{heard_all}
use Rattle.tc_desk.specs.Acts.{link_tests, tests_behind, refusal_of, released, released_beside, acted}
use Rattle.tc_desk.specs.Machine.{Passes, PutsDown, Reports, Boards, Flies, FliesBeside, Does, StaysSame}
use Rattle.tc_desk.specs.Tied.{AreTied, AreTiedTo, IsTied}
use Rattle.tc_book.proofs.PassingLemmas.{none_holds, not_false}
use Rattle.tc_desk.proofs.HeardLemmas.{heard_tied, waits_no_more}
use Rattle.tc_desk.proofs.BookSteps.{noted_tied, book_tied}
use Rattle.tc_desk.proofs.OwnLemmas.{released_tied}
use Rattle.tc_desk.proofs.StepLemmas.{none_behind, record_noted}
use Rattle.tc_desk.proofs.TargetLemmas.{activities_before}

-- ---- the wait queue

one_waits : (m : Machine) → length (waiting_requests m) ≤ 1
one_waits m = by_waiting m.waiting
  where
    by_waiting : (w : Option Waiting) → length (map (λ (x : Waiting). x.request) (option_list w)) ≤ 1
    by_waiting None = omega arith
    by_waiting (Some w) = omega arith

none_waits : (m : Machine) → ((view_of m).waiting == 0) ≡ true → waiting_requests m ≡ []
none_waits m e = by_waiting m.waiting e
  where
    by_waiting : (w : Option Waiting) → (length (option_list w) == 0) ≡ true → map (λ (x : Waiting). x.request) (option_list w) ≡ []
    by_waiting None h = refl
    by_waiting (Some w) h = cc

-- ---- what the link tells

-- what the book hears of an event keeps the tie
told_tied : {U D : Type 0} (o : ℕ) (stamp : Stamp) (mirror : MirrorState) (given : Event) (w v : Whole U D) (all : List LinkIndication) (book : Book) → TellsRequests given w v all
    → length (waiting_requests w.fop ++ offered_by given) ≤ 1 → AreTied o book (waiting_requests w.fop ++ offered_by given) (all_sent w) (all_confirmed w)
    → AreTiedTo o (heard_all stamp mirror all book) v
told_tied o stamp mirror given w v all book tells few tied =
    subst (λ sent. AreTied o (heard_all stamp mirror all book) (waiting_requests v.fop) sent (all_confirmed v)) (sym tells.sent)
    (subst (AreTied o (heard_all stamp mirror all book) (waiting_requests v.fop) (all_sent w ++ flat_map sent_said all)) (sym tells.confirmed)
    (heard_tied o stamp mirror all book (waiting_requests w.fop ++ offered_by given) (waiting_requests v.fop) (all_sent w) (all_confirmed w) tells.waits few tied))

-- of an event that offers nothing
told_tied_alone : {U D : Type 0} (o : ℕ) (stamp : Stamp) (mirror : MirrorState) (given : Event) (w v : Whole U D) (all : List LinkIndication) (book : Book) → offered_by given ≡ [] → TellsRequests given w v all
    → AreTiedTo o book w → AreTiedTo o (heard_all stamp mirror all book) v
told_tied_alone o stamp mirror given w v all book none tells tied =
    let same : waiting_requests w.fop ++ offered_by given ≡ waiting_requests w.fop = ap (λ l. waiting_requests w.fop ++ l) none ∙ append-nil (waiting_requests w.fop) in
    told_tied o stamp mirror given w v all book tells (subst (λ l. length l ≤ 1) (sym same) (one_waits w.fop)) (subst (λ l. AreTied o book l (all_sent w) (all_confirmed w)) (sym same) tied)

-- nothing was asked of the link
alone_tied : {U D : Type 0} (o : ℕ) (stamp : Stamp) (mirror : MirrorState) (w v : Whole U D) (all : List LinkIndication) (book : Book) → (v ≡ w) × (all ≡ []) → AreTiedTo o book w
    → AreTiedTo o (heard_all stamp mirror all book) v
alone_tied o stamp mirror w v all book same tied =
    subst (λ (l : List LinkIndication). AreTiedTo o (heard_all stamp mirror l book) v) (sym same.1) (subst (AreTiedTo o book) (sym same.0) tied)

-- a link that is as before
before_tied : {U D : Type 0} (o : ℕ) (up : Kind U Frame) (down : Kind D Report) (w v : Whole U D) (book : Book) → IsAsBefore up down w v → AreTiedTo o book w → AreTiedTo o book v
before_tied o up down w v book same tied = subst (AreTiedTo o book) (sym same.rest) tied

-- reports that are put on the downlink
puts_tied : {U D : Type 0} (o : ℕ) (up : Kind U Frame) (down : Kind D Report) (stamp : Stamp) (items : List Telemetry) (w v : Whole U D) (book : Book) → PutsDown up down items w v
    → AreTiedTo o book w → AreTiedTo o book v
puts_tied o up down stamp [] w v book puts tied = subst (AreTiedTo o book) (sym puts) tied
puts_tied o up down stamp (item ∷ items) w v book puts tied =
    puts_tied o up down stamp items puts.0 v book puts.2 (told_tied_alone o stamp no_mirror (event.Put item) w puts.0 [] book refl puts.1.tells tied)

-- the same where room was made before
reports_tied : {U D : Type 0} (o : ℕ) (up : Kind U Frame) (down : Kind D Report) (stamp : Stamp) (items : List Telemetry) (w v : Whole U D) (book : Book) → Reports up down items w v
    → AreTiedTo o book w → AreTiedTo o book v
reports_tied o up down stamp items w v book reports tied =
    puts_tied o up down stamp items reports.ready v book reports.put (before_tied o up down w reports.ready book reports.readied tied)

-- a frame that comes on board, and the report that it makes
boards_tied : {U D : Type 0} (o : ℕ) (up : Kind U Frame) (down : Kind D Report) (stamp : Stamp) (old new : State U D) (all : List LinkIndication) → Boards up down old new all → IsTied o old
    → AreTiedTo o (heard_all stamp old.mirror all old.book) new.world
boards_tied o up down stamp old new all boards tied =
    puts_tied o up down stamp (reports_after (taken_in all)) boards.carried new.world (heard_all stamp old.mirror all old.book) boards.reports
    (told_tied_alone o stamp old.mirror (event.Uplink (has_buffer old.board)) boards.ready boards.carried all old.book refl boards.frame.tells
    (before_tied o up down old.world boards.ready old.book boards.readied tied))

-- ---- acts

-- a request that is released: it waits, or is told at once
release_tied : {U D : Type 0} (o : ℕ) (up : Kind U Frame) (down : Kind D Report) (stamp : Stamp) (n : ℕ) (old : State U D) (v : Whole U D) (all : List LinkIndication) (asked : Option Request)
    → Passes up down (offer_at old.book n asked) old.world v all
    → waiting_requests old.world.fop ≡ [] → AreTied o (released stamp (link_act.Release n) old.book) (n ∷ []) (all_sent old.world) (all_confirmed old.world)
    → AreTiedTo o (heard_all stamp old.mirror all (released stamp (link_act.Release n) old.book)) v
release_tied o up down stamp n old v all None passes none tied =
    alone_tied o stamp old.mirror old.world v all (released stamp (link_act.Release n) old.book) passes
    (subst (λ l. AreTied o (released stamp (link_act.Release n) old.book) l (all_sent old.world) (all_confirmed old.world)) (sym none) (waits_no_more o (released stamp (link_act.Release n) old.book) (n ∷ []) (all_sent old.world) (all_confirmed old.world) tied))
release_tied o up down stamp n old v all (Some request) passes none tied =
    let after : Book = released stamp (link_act.Release n) old.book in
    let waits : waiting_requests old.world.fop ++ n ∷ [] ≡ n ∷ [] = ap (λ l. l ++ n ∷ []) none in
    told_tied o stamp old.mirror (event.Offer n (payload_of old.book request.body)) old.world v all after passes.tells
    (subst (λ l. length l ≤ 1) (sym waits) (omega arith))
    (subst (λ l. AreTied o after l (all_sent old.world) (all_confirmed old.world)) (sym waits) tied)

-- a release that no test refuses
left_tied : {U D : Type 0} (o : ℕ) (up : Kind U Frame) (down : Kind D Report) (stamp : Stamp) (n : ℕ) (old new : State U D) (all : List LinkIndication)
    → Each (λ (m : ℕ). m < n) (activities_at old.book n) → first_refusal (link_tests old.book (view_of old.world.fop) (widest_k old.world.farm.window) old.board.time (link_act.Release n)) ≡ None
    → Flies up down (link_act.Release n) old new all → IsTied o old → AreTiedTo o (heard_all stamp old.mirror all (released stamp (link_act.Release n) old.book)) new.world
left_tied o up down stamp n old new all before passes flies tied =
    let tests = none_holds (link_tests old.book (view_of old.world.fop) (widest_k old.world.farm.window) old.board.time (link_act.Release n)) passes in
    let none = none_waits old.world.fop (not_false _ tests.1.1.1.1.1.1.0) in
    release_tied o up down stamp n old new.world all (request_at old.book n) flies.0 none
    (released_tied o stamp old.book n (all_sent old.world) (all_confirmed old.world) before (not_false _ tests.1.1.0) tests.1.1.1.1.0 (subst (λ l. AreTied o old.book l (all_sent old.world) (all_confirmed old.world)) none tied))

-- an act on the link keeps it
flight_tied : {U D : Type 0} (o : ℕ) (up : Kind U Frame) (down : Kind D Report) (stamp : Stamp) (given : LinkAct) (old new : State U D) (all : List LinkIndication)
    → IsGoodBook old.book → refusal_of stamp old (act.Link given) ≡ None → Flies up down given old new all → IsTied o old
    → AreTiedTo o (heard_all stamp old.mirror all (released stamp given old.book)) new.world
flight_tied o up down stamp (link_act.Release n) old new all good passes flies tied = left_tied o up down stamp n old new all (activities_before old.book good n) passes flies tied
flight_tied o up down stamp (link_act.Direct given) old new all good passes flies tied = told_tied_alone o stamp old.mirror (event.Directive given) old.world new.world all old.book refl flies.0.tells tied
flight_tied o up down stamp link_act.Tick old new all good passes flies tied = told_tied_alone o stamp old.mirror event.Tick old.world new.world all old.book refl flies.0.tells tied
flight_tied o up down stamp link_act.Up old new all good passes flies tied = boards_tied o up down stamp old new all flies tied
flight_tied o up down stamp (link_act.LoseUp place) old new all good passes flies tied = told_tied_alone o stamp old.mirror (event.LoseUp place) old.world new.world all old.book refl flies.0.tells tied
flight_tied o up down stamp (link_act.LoseDown place) old new all good passes flies tied = told_tied_alone o stamp old.mirror (event.LoseDown place) old.world new.world all old.book refl flies.0.tells tied
flight_tied o up down stamp link_act.Clcw old new all good passes flies tied = told_tied_alone o stamp old.mirror event.Clcw old.world new.world all old.book refl flies.0.tells tied
flight_tied o up down stamp link_act.Down old new all good passes flies tied = told_tied_alone o stamp old.mirror event.Downlink old.world new.world all old.book refl flies.0.tells tied
flight_tied o up down stamp link_act.Work old new all good passes flies tied =
    subst (λ l. AreTiedTo o (heard_all stamp old.mirror l old.book) new.world) (sym flies.silent)
    (told_tied_alone o stamp old.mirror event.Release flies.reported new.world [] old.book refl flies.free.tells (reports_tied o up down stamp _ old.world flies.reported old.book flies.reports tied))
flight_tied o up down stamp (link_act.Clock time) old new all good passes flies tied =
    subst (λ l. AreTiedTo o (heard_all stamp old.mirror l old.book) new.world) (sym flies.silent)
    (reports_tied o up down stamp flies.items old.world new.world old.book flies.reports tied)

-- a record alone
record_tied : {U D : Type 0} (o : ℕ) (stamp : Stamp) (given : StepAct) (at : State U D) → IsTied o at → AreTiedTo o (recorded stamp given at.book) at.world
record_tied o stamp given at tied =
    (noted_tied o stamp at.book (recorded stamp given at.book) (waiting_requests at.world.fop) (all_sent at.world) (all_confirmed at.world) (record_noted stamp given at.book) tied).tied

-- a step, and the release that comes with it, if one does
beside_tied : {U D : Type 0} (o : ℕ) (up : Kind U Frame) (down : Kind D Report) (stamp : Stamp) (given : StepAct) (beside : Option ℕ) (old new : State U D) (all : List LinkIndication)
    → IsGoodBook old.book → first_refusal (tests_behind old.book (view_of old.world.fop) (widest_k old.world.farm.window) old.board.time beside) ≡ None → FliesBeside up down beside old new all → IsTied o old
    → AreTiedTo o (heard_all stamp old.mirror all (released_beside stamp beside (recorded stamp given old.book))) new.world
beside_tied o up down stamp given None old new all good passes stands tied = alone_tied o stamp old.mirror old.world new.world all (recorded stamp given old.book) (stands.0, stands.3) (record_tied o stamp given old tied)
beside_tied {U} {D} o up down stamp given (Some n) old new all good passes flies tied =
    let noted : State U D = record old { book = recorded stamp given old.book } in
    left_tied o up down stamp n noted new all (activities_before old.book good n) passes flies (record_tied o stamp given old tied)

-- an act keeps it
went_tied : {U D : Type 0} (o : ℕ) (up : Kind U Frame) (down : Kind D Report) (stamp : Stamp) (given : Act) (old new : State U D) (all : List LinkIndication) (first : FirstLine)
    → IsGoodBook old.book → refusal_of stamp old given ≡ None → Does up down stamp given old new all first → IsTied o old
    → AreTiedTo o (heard_all stamp old.mirror all (acted stamp given old.book)) new.world
went_tied o up down stamp (act.Book given) old new all first good passes does tied =
    alone_tied o stamp old.mirror old.world new.world all (book_acted stamp given old.book) (does.link.0, does.link.3)
    (book_tied o stamp given old.book (waiting_requests old.world.fop) (all_sent old.world) (all_confirmed old.world) good passes tied).tied
went_tied o up down stamp (act.Link given) old new all first good passes does tied = flight_tied o up down stamp given old new all good passes does.link tied
went_tied o up down stamp (act.Step given) old new all first good passes does tied =
    beside_tied o up down stamp given (released_with old.book given) old new all good (none_behind (step_tests stamp old.book given) _ passes) does.link tied
went_tied {U} {D} o up down stamp (act.Ask asked) old new all first good passes does tied =
    alone_tied o stamp old.mirror old.world new.world all old.book (ap (λ (at : State U D). at.world) does.link.0, does.link.1) tied

pub does_tied : {U D : Type 0} (o : ℕ) (up : Kind U Frame) (down : Kind D Report) (stamp : Stamp) (given : Act) (old new : State U D) (all : List LinkIndication) (first : FirstLine)
    → IsGoodBook old.book → refusal_of stamp old given ≡ None → Does up down stamp given old new all first → IsTied o old → IsTied o new
does_tied o up down stamp given old new all first good passes does tied =
    subst (λ book. AreTiedTo o book new.world) (sym does.book) (went_tied o up down stamp given old new all first good passes does tied)

-- one that was refused keeps it too
pub same_tied : {U D : Type 0} (o : ℕ) (up : Kind U Frame) (down : Kind D Report) (old new : State U D) → StaysSame up down old new → IsTied o old → IsTied o new
same_tied o up down old new same tied =
    before_tied o up down old.world new.world new.book same.world (subst (λ book. AreTiedTo o book old.world) (sym same.book) tied)
