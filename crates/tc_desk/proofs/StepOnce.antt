-- Over links that do as lists do an act comes to one end, but for refused memory.
use Rattle.std.proofs.Common.{◌≡◌, ◌⊎◌, ℕ, inl, inr, Bool, true, false, Option, Some, None, List, [], ◌∷◌, length, drop, refl, sym, ◌∙◌, ap, subst}
use Rattle.tc_types.specs.declared.link.frames.Frame.{Frame}
use Rattle.tc_types.specs.declared.link.reports.Report.{Report}
use Rattle.tc_types.specs.declared.requests.Request.{Request}
use Rattle.tc_types.specs.declared.acts.Act.{Act}
use Rattle.tc_types.specs.declared.acts.Act.TheVariants as act
use Rattle.tc_types.specs.declared.acts.LinkAct.{LinkAct}
use Rattle.tc_types.specs.declared.acts.LinkAct.TheVariants as link_act
use Rattle.tc_types.specs.declared.history.moves.Move.{Move}
use Rattle.tc_types.specs.declared.refusals.Refusal.{Refusal}
use Rattle.tc_types.specs.declared.refusals.Refusal.TheVariants.{Memory}
use Rattle.tc_types.specs.declared.link.reports.Telemetry.{Telemetry}
use Rattle.tc_world.specs.declared.events.Event.{Event}
use Rattle.tc_world.specs.declared.events.Event.TheVariants as event
use Rattle.tc_world.specs.declared.events.LinkIndication.{LinkIndication}
use Rattle.tc_world.specs.Abstraction.{seen}
use Rattle.tc_world.specs.Links.{Kind}
use Rattle.tc_world.specs.World.{Whole}
use Rattle.tc_board.specs.Board.{work_reports}
use Rattle.tc_book.specs.declared.stamps.Stamp.{Stamp}
use Rattle.tc_book.specs.Book.{Book, request_at}
use Rattle.tc_book.specs.Logs.{released_with}
use Rattle.tc_desk.specs.declared.firsts.FirstLine.{FirstLine}
use Rattle.tc_desk.specs.Acts.{acted, first_of, is_question, refusal_of}
use Rattle.tc_desk.specs.Asks.{board_after, event_of, offer_at, has_buffer, mirror_by, reports_after, taken_in}
use Rattle.tc_desk.specs.Effects.{heard_all}
use Rattle.tc_desk.specs.Machine.{Boards, Carries, DeskStep, Does, Flies, FliesBeside, Goes, Passes, PutsDown, Refuses, Reports, Serves, Stands, StaysSame, Works, rows_new}
use Rattle.tc_desk.specs.Once.{AsLists, AreLists, EndsOnce, HasOwnWords, IsOneEnd, IsOnlyEnd, is_clock, is_clock_of}
use Rattle.tc_desk.specs.Replies.{Reply, act_reply, refusal_reply}
use Rattle.tc_desk.specs.State.{State}
use Rattle.tc_desk.proofs.LinkOnce.{IsOnce, before_is, happens_once, hears_outside, own_for}

-- ---- the link and the spacecraft

-- two ends of an act on the link: what was told, the spacecraft and the mirror, and what is seen of the link, but after a clock
record AreOnce {U D : Type 0} (up : Kind U Frame) (down : Kind D Report) (clock : Bool) (new1 new2 : State U D) (all1 all2 : List LinkIndication) : Type 0 where
  world : clock ≡ false → seen up down new1.world ≡ seen up down new2.world
  told : all1 ≡ all2
  board : new1.board ≡ new2.board
  mirror : new1.mirror ≡ new2.mirror

-- what is asked hears nothing from outside
abbrev asks_inside : Option Event → Type 0
asks_inside None = Unit {0}
asks_inside (Some given) = hears_outside given ≡ false

offer_inside : (book : Book) (n : ℕ) (request : Option Request) → asks_inside (offer_at book n request)
offer_inside book n None = tt
offer_inside book n (Some request) = refl

passes_once : {U D : Type 0} {up : Kind U Frame} {down : Kind D Report} (k : AsLists up down) (asked : Option Event) (w v1 v2 : Whole U D) (a1 a2 : List LinkIndication) → AreLists k w → asks_inside asked → HasOwnWords down w
    → Passes up down asked w v1 a1 → Passes up down asked w v2 a2 → IsOnce k v1 v2 a1 a2
passes_once {U} {D} {up} {down} k None w v1 v2 a1 a2 lists inside own p1 p2 = record {
  world = ap (λ (x : Whole U D). seen up down x) (p1.0 ∙ sym p2.0);
  told = p1.1 ∙ sym p2.1;
  first = subst (λ (x : Whole U D). AreLists k x) (sym p1.0) lists;
  other = subst (λ (x : Whole U D). AreLists k x) (sym p2.0) lists;
}
passes_once {U} {D} {up} {down} k (Some given) w v1 v2 a1 a2 lists inside own p1 p2 = happens_once k given w w v1 v2 a1 a2 lists lists refl (own_for down given w inside own) p1.happens p2.happens

puts_once : {U D : Type 0} {up : Kind U Frame} {down : Kind D Report} (k : AsLists up down) (items : List Telemetry) (w1 w2 v1 v2 : Whole U D) → AreLists k w1 → AreLists k w2 → seen up down w1 ≡ seen up down w2 → PutsDown up down items w1 v1 → PutsDown up down items w2 v2
    → IsOnce k v1 v2 [] []
puts_once {U} {D} {up} {down} k [] w1 w2 v1 v2 l1 l2 same p1 p2 = record {
  world = ap (λ (x : Whole U D). seen up down x) p1 ∙ same ∙ sym (ap (λ (x : Whole U D). seen up down x) p2);
  told = refl;
  first = subst (λ (x : Whole U D). AreLists k x) (sym p1) l1;
  other = subst (λ (x : Whole U D). AreLists k x) (sym p2) l2;
}
puts_once {U} {D} {up} {down} k (item ∷ items) w1 w2 v1 v2 l1 l2 same p1 p2 =
    let once = happens_once k (event.Put item) w1 w2 p1.0 p2.0 [] [] l1 l2 same tt p1.1.happens p2.1.happens in
    puts_once k items p1.0 p2.0 v1 v2 once.first once.other once.world p1.2 p2.2

reports_once : {U D : Type 0} {up : Kind U Frame} {down : Kind D Report} (k : AsLists up down) (items : List Telemetry) (w v1 v2 : Whole U D) → AreLists k w → Reports up down items w v1 → Reports up down items w v2 → IsOnce k v1 v2 [] []
reports_once k items w v1 v2 lists r1 r2 =
    let is1 = before_is k w r1.ready lists r1.readied in
    let is2 = before_is k w r2.ready lists r2.readied in
    puts_once k items r1.ready r2.ready v1 v2 is1.1 is2.1 (is1.0 ∙ sym is2.0) r1.put r2.put

passed : {U D : Type 0} {up : Kind U Frame} {down : Kind D Report} (k : AsLists up down) (clock : Bool) (new1 new2 : State U D) (all1 all2 : List LinkIndication) → IsOnce k new1.world new2.world all1 all2 → new1.board ≡ new2.board → new1.mirror ≡ new2.mirror
    → AreOnce up down clock new1 new2 all1 all2
passed k clock new1 new2 all1 all2 once board mirror = record { world = λ _. once.world; told = once.told; board = board; mirror = mirror }

-- a frame comes on board, and the report that it makes goes down
boards_once : {U D : Type 0} {up : Kind U Frame} {down : Kind D Report} (k : AsLists up down) (old new1 new2 : State U D) (all1 all2 : List LinkIndication) → AreLists k old.world → Boards up down old new1 all1 → Boards up down old new2 all2 → AreOnce up down false new1 new2 all1 all2
boards_once {U} {D} {up} {down} k old new1 new2 all1 all2 lists f1 f2 =
    let is1 = before_is k old.world f1.ready lists f1.readied in
    let is2 = before_is k old.world f2.ready lists f2.readied in
    let once = happens_once k (event.Uplink (has_buffer old.board)) f1.ready f2.ready f1.carried f2.carried all1 all2 is1.1 is2.1 (is1.0 ∙ sym is2.0) tt f1.frame.happens f2.frame.happens in
    let reports : PutsDown up down (reports_after (taken_in all1)) f2.carried new2.world =
    subst (λ (all : List LinkIndication). PutsDown up down (reports_after (taken_in all)) f2.carried new2.world) (sym once.told) f2.reports in
    record {
      world = λ _. (puts_once k (reports_after (taken_in all1)) f1.carried f2.carried new1.world new2.world once.first once.other once.world f1.reports reports).world;
      told = once.told;
      board = f1.board ∙ ap (λ (all : List LinkIndication). board_after (taken_in all) old.board) once.told ∙ sym f2.board;
      mirror = f1.mirror ∙ sym f2.mirror;
    }

-- a request is carried out
works_once : {U D : Type 0} {up : Kind U Frame} {down : Kind D Report} (k : AsLists up down) (old new1 new2 : State U D) (all1 all2 : List LinkIndication) → AreLists k old.world → Works up down old new1 all1 → Works up down old new2 all2 → AreOnce up down false new1 new2 all1 all2
works_once {U} {D} {up} {down} k old new1 new2 all1 all2 lists f1 f2 =
    let reported = reports_once k (work_reports old.board old.board.buffer) old.world f1.reported f2.reported lists f1.reports f2.reports in
    record {
      world = λ _. (happens_once k event.Release f1.reported f2.reported new1.world new2.world [] [] reported.first reported.other reported.world tt f1.free.happens f2.free.happens).world;
      told = f1.silent ∙ sym f2.silent;
      board = f1.board ∙ sym f2.board;
      mirror = f1.mirror ∙ sym f2.mirror;
    }

true_false : true ≡ false → ⊥
true_false e = cc

flies_once : {U D : Type 0} {up : Kind U Frame} {down : Kind D Report} (k : AsLists up down) (given : LinkAct) (old new1 new2 : State U D) (all1 all2 : List LinkIndication) → AreLists k old.world → HasOwnWords down old.world
    → Flies up down given old new1 all1 → Flies up down given old new2 all2 → AreOnce up down (is_clock_of given) new1 new2 all1 all2
flies_once k (link_act.Release n) old new1 new2 all1 all2 lists own f1 f2 =
    passed k false new1 new2 all1 all2 (passes_once k (event_of old (link_act.Release n)) old.world new1.world new2.world all1 all2 lists (offer_inside old.book n (request_at old.book n)) own f1.0 f2.0) (f1.1 ∙ sym f2.1) (f1.2 ∙ sym f2.2)
flies_once k (link_act.Direct given) old new1 new2 all1 all2 lists own f1 f2 =
    passed k false new1 new2 all1 all2 (passes_once k (event_of old (link_act.Direct given)) old.world new1.world new2.world all1 all2 lists refl own f1.0 f2.0) (f1.1 ∙ sym f2.1) (f1.2 ∙ sym f2.2)
flies_once k link_act.Tick old new1 new2 all1 all2 lists own f1 f2 =
    passed k false new1 new2 all1 all2 (passes_once k (event_of old link_act.Tick) old.world new1.world new2.world all1 all2 lists refl own f1.0 f2.0) (f1.1 ∙ sym f2.1) (f1.2 ∙ sym f2.2)
flies_once k link_act.Up old new1 new2 all1 all2 lists own f1 f2 = boards_once k old new1 new2 all1 all2 lists f1 f2
flies_once k (link_act.LoseUp place) old new1 new2 all1 all2 lists own f1 f2 =
    passed k false new1 new2 all1 all2 (passes_once k (event_of old (link_act.LoseUp place)) old.world new1.world new2.world all1 all2 lists refl own f1.0 f2.0) (f1.1 ∙ sym f2.1) (f1.2 ∙ sym f2.2)
flies_once k (link_act.LoseDown place) old new1 new2 all1 all2 lists own f1 f2 =
    passed k false new1 new2 all1 all2 (passes_once k (event_of old (link_act.LoseDown place)) old.world new1.world new2.world all1 all2 lists refl own f1.0 f2.0) (f1.1 ∙ sym f2.1) (f1.2 ∙ sym f2.2)
flies_once k link_act.Clcw old new1 new2 all1 all2 lists own f1 f2 =
    passed k false new1 new2 all1 all2 (passes_once k (event_of old link_act.Clcw) old.world new1.world new2.world all1 all2 lists refl own f1.0 f2.0) (f1.1 ∙ sym f2.1) (f1.2 ∙ sym f2.2)
flies_once k link_act.Down old new1 new2 all1 all2 lists own f1 f2 =
    let once = passes_once k (event_of old link_act.Down) old.world new1.world new2.world all1 all2 lists refl own f1.0 f2.0 in
    passed k false new1 new2 all1 all2 once (f1.1 ∙ sym f2.1) (f1.2 ∙ ap (λ (all : List LinkIndication). mirror_by old.book all old.mirror) once.told ∙ sym f2.2)
flies_once k link_act.Work old new1 new2 all1 all2 lists own f1 f2 = works_once k old new1 new2 all1 all2 lists f1 f2
flies_once k (link_act.Clock time) old new1 new2 all1 all2 lists own f1 f2 =
    record { world = λ is. absurd (true_false is); told = f1.silent ∙ sym f2.silent; board = f1.board ∙ sym f2.board; mirror = f1.mirror ∙ sym f2.mirror }

stands_once : {U D : Type 0} (up : Kind U Frame) (down : Kind D Report) (clock : Bool) (old new1 new2 : State U D) (all1 all2 : List LinkIndication) → Stands old new1 all1 → Stands old new2 all2
    → AreOnce up down clock new1 new2 all1 all2
stands_once {U} {D} up down clock old new1 new2 all1 all2 s1 s2 =
    record { world = λ _. ap (λ (x : Whole U D). seen up down x) (s1.0 ∙ sym s2.0); told = s1.3 ∙ sym s2.3; board = s1.1 ∙ sym s2.1; mirror = s1.2 ∙ sym s2.2 }

beside_once : {U D : Type 0} {up : Kind U Frame} {down : Kind D Report} (k : AsLists up down) (beside : Option ℕ) (old new1 new2 : State U D) (all1 all2 : List LinkIndication) → AreLists k old.world → HasOwnWords down old.world
    → FliesBeside up down beside old new1 all1 → FliesBeside up down beside old new2 all2 → AreOnce up down false new1 new2 all1 all2
beside_once {U} {D} {up} {down} k None old new1 new2 all1 all2 lists own f1 f2 = stands_once up down false old new1 new2 all1 all2 f1 f2
beside_once k (Some n) old new1 new2 all1 all2 lists own f1 f2 = flies_once k (link_act.Release n) old new1 new2 all1 all2 lists own f1 f2

goes_once : {U D : Type 0} {up : Kind U Frame} {down : Kind D Report} (k : AsLists up down) (given : Act) (old new1 new2 : State U D) (all1 all2 : List LinkIndication) → is_question given ≡ false → AreLists k old.world → HasOwnWords down old.world
    → Goes up down given old new1 all1 → Goes up down given old new2 all2 → AreOnce up down (is_clock given) new1 new2 all1 all2
goes_once {U} {D} {up} {down} k (act.Book given) old new1 new2 all1 all2 acts lists own g1 g2 = stands_once up down false old new1 new2 all1 all2 g1 g2
goes_once k (act.Link given) old new1 new2 all1 all2 acts lists own g1 g2 = flies_once k given old new1 new2 all1 all2 lists own g1 g2
goes_once k (act.Step given) old new1 new2 all1 all2 acts lists own g1 g2 = beside_once k (released_with old.book given) old new1 new2 all1 all2 lists own g1 g2
goes_once k (act.Ask asked) old new1 new2 all1 all2 acts lists own g1 g2 = absurd (true_false acts)

-- ---- one act

carries_once : {U D : Type 0} {up : Kind U Frame} {down : Kind D Report} (k : AsLists up down) (stamp : Stamp) (given : Act) (old new1 new2 : State U D) (told1 told2 : Reply) → is_question given ≡ false → AreLists k old.world → HasOwnWords down old.world
    → Carries up down old stamp given told1 new1 → Carries up down old stamp given told2 new2 → IsOneEnd up down given told1 told2 new1 new2
carries_once k stamp given old new1 new2 told1 told2 acts lists own c1 c2 =
    let once = goes_once k given old new1 new2 c1.all c2.all acts lists own c1.does.link c2.does.link in
    let book : new1.book ≡ new2.book = c1.does.book ∙ ap (λ (all : List LinkIndication). heard_all stamp old.mirror all (acted stamp given old.book)) once.told ∙ sym c2.does.book in
    let first : c1.first ≡ c2.first = c1.does.begins ∙ ap (λ (all : List LinkIndication). first_of old given all) once.told ∙ sym c2.does.begins in
    record {
      reply = c1.reply
          ∙ ap (λ (f : FirstLine). act_reply f c1.all (rows_new old new1)) first
          ∙ ap (λ (all : List LinkIndication). act_reply c2.first all (rows_new old new1)) once.told
          ∙ ap (λ (b : Book). act_reply c2.first c2.all (drop (length old.book.history) b.history)) book
          ∙ sym c2.reply;
      book = book;
      board = once.board;
      mirror = once.mirror;
      world = once.world;
    }

-- an act that is no question is carried out
carries_of : {U D : Type 0} (up : Kind U Frame) (down : Kind D Report) (stamp : Stamp) (given : Act) (old new : State U D) (told : Reply) → is_question given ≡ false
    → Serves up down old stamp given told new → Carries up down old stamp given told new
carries_of up down stamp (act.Book given) old new told acts serves = serves
carries_of up down stamp (act.Link given) old new told acts serves = serves
carries_of up down stamp (act.Step given) old new told acts serves = serves
carries_of up down stamp (act.Ask asked) old new told acts serves = absurd (true_false acts)

-- what is refused stays
stays_once : {U D : Type 0} {up : Kind U Frame} {down : Kind D Report} (k : AsLists up down) (given : Act) (old new1 new2 : State U D) (told1 told2 : Reply) → AreLists k old.world → told1 ≡ told2 → StaysSame up down old new1 → StaysSame up down old new2
    → IsOneEnd up down given told1 told2 new1 new2
stays_once k given old new1 new2 told1 told2 lists reply s1 s2 = record {
  reply = reply;
  book = s1.book ∙ sym s2.book;
  board = s1.board ∙ sym s2.board;
  mirror = s1.mirror ∙ sym s2.mirror;
  world = λ _. (before_is k old.world new1.world lists s1.world).0 ∙ sym (before_is k old.world new2.world lists s2.world).0;
}

some_same : (a b : Refusal) → (let e : Option Refusal = Some a in e) ≡ Some b → a ≡ b
some_same a b e = cc

none_some : (a : Refusal) → (let e : Option Refusal = None in e) ≡ Some a → ⊥
none_some a e = cc

-- an act that was carried out, and any other end
pub carried_once : {U D : Type 0} {up : Kind U Frame} {down : Kind D Report} (k : AsLists up down) (stamp : Stamp) (given : Act) (old new1 new2 : State U D) (told1 told2 : Reply) → is_question given ≡ false → AreLists k old.world → HasOwnWords down old.world
    → Carries up down old stamp given told1 new1 → DeskStep up down old stamp given told2 new2 → EndsOnce up down given told1 told2 new1 new2
carried_once {U} {D} {up} {down} k stamp given old new1 new2 told1 told2 acts lists own c1 (inl s2) =
    inr (inr (carries_once k stamp given old new1 new2 told1 told2 acts lists own c1 (carries_of up down stamp given old new2 told2 acts s2)))
carried_once {U} {D} {up} {down} k stamp given old new1 new2 told1 told2 acts lists own c1 (inr (refused, why, told)) = by_why why.why
  where
    by_why : (refusal_of stamp old given ≡ Some refused) ⊎ ((refusal_of stamp old given ≡ None) × (refused ≡ Memory)) → EndsOnce up down given told1 told2 new1 new2
    by_why (inl is) = absurd (none_some refused (sym c1.free ∙ is))
    by_why (inr (_, is)) = inr (inl (told ∙ ap refusal_reply is))

-- one that was refused, and any other end
pub refused_once : {U D : Type 0} {up : Kind U Frame} {down : Kind D Report} (k : AsLists up down) (stamp : Stamp) (given : Act) (old new1 new2 : State U D) (refused1 : Refusal) (told2 : Reply) → is_question given ≡ false → AreLists k old.world
    → Refuses up down stamp given old new1 refused1 → DeskStep up down old stamp given told2 new2 → EndsOnce up down given (refusal_reply refused1) told2 new1 new2
refused_once {U} {D} {up} {down} k stamp given old new1 new2 refused1 told2 acts lists why1 (inl s2) = by_why why1.why
  where
    free : refusal_of stamp old given ≡ None
    free = (carries_of up down stamp given old new2 told2 acts s2).free

    by_why : (refusal_of stamp old given ≡ Some refused1) ⊎ ((refusal_of stamp old given ≡ None) × (refused1 ≡ Memory)) → EndsOnce up down given (refusal_reply refused1) told2 new1 new2
    by_why (inl is) = absurd (none_some refused1 (sym free ∙ is))
    by_why (inr (_, is)) = inl (ap refusal_reply is)
refused_once {U} {D} {up} {down} k stamp given old new1 new2 refused1 told2 acts lists why1 (inr (refused2, why2, is2)) = by_why why1.why why2.why
  where
    by_why : (refusal_of stamp old given ≡ Some refused1) ⊎ ((refusal_of stamp old given ≡ None) × (refused1 ≡ Memory))
        → (refusal_of stamp old given ≡ Some refused2) ⊎ ((refusal_of stamp old given ≡ None) × (refused2 ≡ Memory)) → EndsOnce up down given (refusal_reply refused1) told2 new1 new2
    by_why (inl a) (inl b) = inr (inr (stays_once k given old new1 new2 (refusal_reply refused1) told2 lists (ap refusal_reply (some_same refused1 refused2 (sym a ∙ b)) ∙ sym is2) why1.same why2.same))
    by_why (inr (_, a)) b = inl (ap refusal_reply a)
    by_why (inl a) (inr (_, b)) = inr (inl (is2 ∙ ap refusal_reply b))

-- so it is the only end, of an act that was carried out
pub does_once : {U D : Type 0} (up : Kind U Frame) (down : Kind D Report) (stamp : Stamp) (given : Act) (old new : State U D) (all : List LinkIndication) (first : FirstLine) (rows : List Move) → is_question given ≡ false
    → refusal_of stamp old given ≡ None → Does up down stamp given old new all first → rows ≡ rows_new old new → IsOnlyEnd up down old stamp given (act_reply first all rows) new
does_once up down stamp given old new all first rows acts free does made = record {
  once = λ links lists own told other step. carried_once links stamp given old new other (act_reply first all rows) told acts lists own
      (record { first = first; all = all; free = free; does = does; reply = ap (act_reply first all) made }) step;
}

-- and of one that was refused
pub refuses_once : {U D : Type 0} (up : Kind U Frame) (down : Kind D Report) (stamp : Stamp) (given : Act) (old new : State U D) (refused : Refusal) → is_question given ≡ false
    → Refuses up down stamp given old new refused → IsOnlyEnd up down old stamp given (refusal_reply refused) new
refuses_once up down stamp given old new refused acts refuses = record {
  once = λ links lists own told other step. refused_once links stamp given old new other refused told acts lists refuses step;
}
