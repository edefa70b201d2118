-- Each act keeps it that the mirror follows the spacecraft.
use Rattle.std.proofs.Common.{◌≡◌, ℕ, true, None, List, [], ◌++◌, refl, sym, ◌∙◌, ap, subst, arith}
use Rattle.std.specs.List.{AllByRecursion, IsDistinct}
use Rattle.std.proofs.lemmas.List.Sums.{fold-append}
use Rattle.tc_types.specs.declared.acts.Act.{Act}
use Rattle.tc_types.specs.declared.acts.Act.TheVariants as act
use Rattle.tc_types.specs.declared.link.frames.Frame.{Frame}
use Rattle.tc_types.specs.declared.link.reports.Report.{Report}
use Rattle.tc_fop.specs.Requests.{waiting_requests}
use Rattle.tc_world.specs.declared.events.LinkIndication.{LinkIndication}
use Rattle.tc_world.specs.Abstraction.{seen}
use Rattle.tc_world.specs.Links.{Kind}
use Rattle.tc_world.specs.Payloads.{AreCarried}
use Rattle.tc_world.specs.Window.{all_confirmed}
use Rattle.tc_world.specs.World.{Whole, all_sent}
use Rattle.tc_world.proofs.AllLists.{all_sub, all_append, all_behind, all_follow}
use Rattle.tc_world.proofs.Bridge.{OnlyLoses, readied_content}
use Rattle.tc_world.proofs.Payloads.{payloads_start, payloads_weaker}
use Rattle.tc_board.specs.Board.{BoardState}
use Rattle.tc_board.specs.Follows.{IsBoardOf}
use Rattle.tc_board.specs.Schedule.{IsSchedule}
use Rattle.tc_board.specs.Mirror.{MirrorState, mirror_after, mirror_of}
use Rattle.tc_board.specs.Names.{AreNamed, Agrees}
use Rattle.tc_board.proofs.NameLemmas.{names_weaker}
use Rattle.tc_board.proofs.RollLemmas.{board_agrees}
use Rattle.tc_book.specs.declared.stamps.Stamp.{Stamp}
use Rattle.tc_book.specs.Book.{Book}
use Rattle.tc_book.specs.Good.{IsGoodBook}
use Rattle.tc_book.specs.Acts.{acted as book_acted}
use Rattle.tc_world.specs.declared.configs.Config.{Config}
use Rattle.tc_desk.specs.declared.firsts.FirstLine.{FirstLine}
use Rattle.tc_desk.specs.Acts.{refusal_of}
use Rattle.tc_desk.specs.Asks.{command_told}
use Rattle.tc_desk.specs.Commands.{command_at}
use Rattle.tc_desk.specs.Downlink.{came_down, ArePut, MovesDown, KeepsWhole}
use Rattle.tc_desk.specs.Effects.{heard_all}
use Rattle.tc_desk.specs.Followed.{roll_of, IsPayloadOf, IsFlown, IsNamedDown, mirror_through, IsFollowed}
use Rattle.tc_desk.specs.Machine.{Does, StaysSame}
use Rattle.tc_desk.specs.Riders.{carried_by, NoneIsOf}
use Rattle.tc_desk.specs.State.{State, DeskState, new_desk}
use Rattle.tc_desk.specs.Tied.{IsTied}
use Rattle.tc_desk.proofs.BoardSteps.{StepsOn, told_comes, goes_steps}
use Rattle.tc_desk.proofs.FollowLaws.{FollowsSteps}
use Rattle.tc_desk.proofs.PayloadActs.{CarriedOn, before_payloads, goes_on_carried}
use Rattle.tc_desk.proofs.ReadActs.{link_requests, step_requests, does_read}
use Rattle.tc_desk.proofs.ReadLemmas.{named_down_weaker, through_agrees}
use Rattle.tc_desk.proofs.BookSteps.{book_tied}
use Rattle.tc_desk.proofs.RollOfLemmas.{BookStays, same_stays, flown_grows, grown_agrees}

-- ---- the book

-- what the book says of those that were sent stays
pub does_stay : {U D : Type 0} (up : Kind U Frame) (down : Kind D Report) (o : ℕ) (stamp : Stamp) (given : Act) (old new : State U D) (all : List LinkIndication) (first : FirstLine)
    → IsGoodBook old.book → refusal_of stamp old given ≡ None → IsTied o old → Does up down stamp given old new all first → BookStays old.book new.book (all_sent old.world)
does_stay up down o stamp (act.Book given) old new all first good passes tied does =
    let alone : new.book ≡ book_acted stamp given old.book = does.book ∙ ap (λ (l : List LinkIndication). heard_all stamp old.mirror l (book_acted stamp given old.book)) does.link.3 in
    subst (λ (book : Book). BookStays old.book book (all_sent old.world)) (sym alone)
    (book_tied o stamp given old.book (waiting_requests old.world.fop) (all_sent old.world) (all_confirmed old.world) good passes tied).stays
does_stay up down o stamp (act.Link given) old new all first good passes tied does = same_stays old.book new.book (all_sent old.world) (link_requests stamp given old new all does.book)
does_stay up down o stamp (act.Step given) old new all first good passes tied does = same_stays old.book new.book (all_sent old.world) (step_requests stamp given old new all does.book)
does_stay {U} {D} up down o stamp (act.Ask asked) old new all first good passes tied does = same_stays old.book new.book (all_sent old.world) (ap (λ (at : State U D). at.book.requests) does.link.0)

-- What flies after it, and what was told, is what the book says of it then.
pub does_carry : {U D : Type 0} (up : Kind U Frame) (down : Kind D Report) (stamp : Stamp) (given : Act) (old new : State U D) (all : List LinkIndication) (first : FirstLine)
    → OnlyLoses up → OnlyLoses down → BookStays old.book new.book (all_sent old.world) → Does up down stamp given old new all first
    → AreCarried (IsPayloadOf old.book) (seen up down old.world) → CarriedOn (IsPayloadOf new.book) up down old.world new.world all
does_carry up down stamp given old new all first losing_up losing_down stays does payloads =
    goes_on_carried (IsPayloadOf new.book) up down losing_up losing_down given old new all (λ n r here. stays.payload n _ (r, here, refl)) does.link
    (payloads_weaker (IsPayloadOf old.book) (IsPayloadOf new.book) (seen up down old.world) stays.payload payloads)

-- ---- what is read

-- what is read one after the other
through_append : (book : Book) (items others : List Report) (m : MirrorState) → mirror_through book (items ++ others) m ≡ mirror_through book others (mirror_through book items m)
through_append book items others m = fold-append (λ (before : MirrorState) (item : Report). mirror_after before (item, command_told book item)) m items others

-- Where all that flew, and all that was put, came down or flies, the mirror is the schedule once what flies is read: what flew
-- made it the schedule before, and what was put makes that the schedule after.
reads_on : (K : ℕ → Type 0) (old new : Book) (flew put came flies : List Report) (before after : MirrorState) (schedule last : MirrorState)
    → flew ++ put ≡ came ++ flies → after ≡ mirror_through new came before
    → ((n : ℕ) → K n → command_at new n ≡ command_at old n) → AllByRecursion (IsNamedDown K) flew
    → mirror_through old flew before ≡ schedule → mirror_through new put schedule ≡ last
    → mirror_through new flies after ≡ last
reads_on K old new flew put came flies before after schedule last exact read same named follows puts =
    ap (mirror_through new flies) read
    ∙ sym (through_append new came flies before)
    ∙ ap (λ (items : List Report). mirror_through new items before) (sym exact)
    ∙ through_append new flew put before
    ∙ ap (mirror_through new put) (through_agrees K old new flew before same named ∙ follows)
    ∙ puts

-- ---- all of it

-- each act keeps it
pub does_followed : {U D : Type 0} (up : Kind U Frame) (down : Kind D Report) (stamp : Stamp) (given : Act) (old new : DeskState U D) (all : List LinkIndication) (first : FirstLine)
    → FollowsSteps → OnlyLoses up → OnlyLoses down
    → IsGoodBook old.parts.book → IsGoodBook new.parts.book → refusal_of stamp old.parts given ≡ None
    → Does up down stamp given old.parts new.parts all first
    → IsTied old.opened old.parts → IsTied new.opened new.parts
    → KeepsWhole down given old new all
    → MovesDown down given old.parts new.parts all
    → IsFollowed up down old → IsFollowed up down new
does_followed {U} {D} up down stamp given old new all first steps losing_up losing_down good good_after passes does tied tied_after keeps moves followed = record {
  payloads = carried.payloads;
  board = moved.board;
  named = moved.named;
  flying = all_behind (IsNamedDown K_after) (came_down all) (down.content new.parts.world.down)
      (all_sub (IsNamedDown K_after) (came_down all ++ down.content new.parts.world.down) (down.content old.parts.world.down ++ moves.put) moves.rest
      (all_append (IsNamedDown K_after) (down.content old.parts.world.down) moves.put flew moved.flying));
  follows = λ whole. let was = keeps.exact.0 whole in reads_on K book book_after (down.content old.parts.world.down) keeps.put (came_down all) (down.content new.parts.world.down)
      old.parts.mirror new.parts.mirror (mirror_of old.parts.board.schedule) (mirror_of new.parts.board.schedule)
      was.1 (does_read up down stamp given old.parts new.parts all first does) stays.command followed.flying (followed.follows was.0) (steps_on keeps.put keeps.are).reads;
}
  where
    book : Book
    book = old.parts.book

    book_after : Book
    book_after = new.parts.book

    sent : List ℕ
    sent = all_sent old.parts.world

    sent_after : List ℕ
    sent_after = all_sent new.parts.world

    K : ℕ → Type 0
    K = IsFlown book sent

    K_after : ℕ → Type 0
    K_after = IsFlown book_after sent_after

    stays : BookStays book book_after sent
    stays = does_stay up down old.opened stamp given old.parts new.parts all first good passes tied does

    carried : CarriedOn (IsPayloadOf book_after) up down old.parts.world new.parts.world all
    carried = does_carry up down stamp given old.parts new.parts all first losing_up losing_down stays does followed.payloads

    agrees : Agrees K (roll_of book sent) (roll_of book_after sent_after)
    agrees = subst (λ (l : List ℕ). Agrees K (roll_of book sent) (roll_of book_after l)) (sym carried.sent)
        (grown_agrees book book_after sent carried.more stays (subst (λ (l : List ℕ). NoneIsOf l (carried_by book_after l)) carried.sent tied_after.apart.apart))

    grows : (n : ℕ) → K n → K_after n
    grows n flown = subst (λ (l : List ℕ). IsFlown book_after l n) (sym carried.sent) (flown_grows book book_after sent carried.more stays n flown)

    flew : AllByRecursion (IsNamedDown K_after) (down.content old.parts.world.down)
    flew = all_follow (IsNamedDown K) (IsNamedDown K_after) (down.content old.parts.world.down) (named_down_weaker K K_after grows) followed.flying

    steps_on : (put : List Report) → ArePut old.parts given all put → StepsOn book_after sent_after old.parts.board new.parts.board put
    steps_on put are = goes_steps up down book_after sent_after given old.parts new.parts all put steps
        (board_agrees K (roll_of book sent) (roll_of book_after sent_after) old.parts.board agrees followed.named followed.board)
        (names_weaker K K_after old.parts.board grows followed.named)
        (told_comes book_after sent_after all good_after tied_after.apart.apart carried.told) does.link are

    moved : StepsOn book_after sent_after old.parts.board new.parts.board moves.put
    moved = steps_on moves.put moves.are

-- one that was refused keeps it too
pub same_followed : {U D : Type 0} (up : Kind U Frame) (down : Kind D Report) → OnlyLoses up → OnlyLoses down → (old new : DeskState U D) → StaysSame up down old.parts new.parts → new.whole ≡ old.whole → IsFollowed up down old → IsFollowed up down new
same_followed {U} {D} up down ul dl old new same whole followed = record {
  payloads = subst (λ (book : Book). AreCarried (IsPayloadOf book) (seen up down new.parts.world)) (sym same.book) (before_payloads (IsPayloadOf old.parts.book) up down ul dl old.parts.world new.parts.world same.world followed.payloads);
  board = as_before (λ book sent board. IsBoardOf (roll_of book sent) board) followed.board;
  named = as_before (λ book sent board. AreNamed (IsFlown book sent) board) followed.named;
  flying = subst (λ (items : List Report). AllByRecursion (IsNamedDown (IsFlown new.parts.book (all_sent new.parts.world))) items) (sym flies)
      (as_before (λ book sent board. AllByRecursion (IsNamedDown (IsFlown book sent)) (down.content old.parts.world.down)) followed.flying);
  follows = λ is_whole.
      ap (λ (items : List Report). mirror_through new.parts.book items new.parts.mirror) flies
      ∙ ap (mirror_through new.parts.book (down.content old.parts.world.down)) same.mirror
      ∙ as_before (λ book sent board. mirror_through book (down.content old.parts.world.down) old.parts.mirror ≡ mirror_of board.schedule) (followed.follows (sym whole ∙ is_whole));
}
  where
    sent : all_sent new.parts.world ≡ all_sent old.parts.world
    sent = ap (λ (w : Whole U D). all_sent w) same.world.rest

    flies : down.content new.parts.world.down ≡ down.content old.parts.world.down
    flies = readied_content down dl old.parts.world.down new.parts.world.down same.world.down

    as_before : (P : Book → List ℕ → BoardState → Type 0) → P old.parts.book (all_sent old.parts.world) old.parts.board → P new.parts.book (all_sent new.parts.world) new.parts.board
    as_before P held =
        subst (λ (book : Book). P book (all_sent new.parts.world) new.parts.board) (sym same.book)
        (subst (λ (l : List ℕ). P old.parts.book l new.parts.board) (sym sent)
        (subst (P old.parts.book (all_sent old.parts.world)) (sym same.board) held))

-- nothing stands in a new schedule
nothing_scheduled : IsSchedule []
unfolding IsDistinct
nothing_scheduled = record { few = omega arith; apart = tt }

-- a desk that was just opened, over any book: nothing flies
pub over_followed : {U D : Type 0} (up : Kind U Frame) (down : Kind D Report) (config : Config) (book : Book) (opened : ℕ) (u : U) (d : D) → up.content u ≡ [] → down.content d ≡ []
    → IsFollowed up down (record { parts = record (new_desk config u d) { book = book }; opened = opened; whole = true })
over_followed {U} {D} up down config book opened u d up_empty down_empty = record {
  payloads = payloads_start (IsPayloadOf book) (seen up down at.world) refl refl refl up_empty;
  board = record { requests = tt; activities = tt; schedule = nothing_scheduled };
  named = record { buffer = tt; activities = tt };
  flying = subst (AllByRecursion (IsNamedDown (IsFlown book (all_sent at.world)))) (sym down_empty) tt;
  follows = λ whole. ap (λ (items : List Report). mirror_through book items at.mirror) down_empty;
}
  where
    at : State U D
    at = new_desk config u d
