-- A call that comes twice is done once.
use Rattle.std.proofs.Common.{◌≡◌, ◌∙◌, ◌⊎◌, inl, inr, ap, subst, refl, sym, ℕ, Bool, true, false, MatchBool, ◌&&◌, List, [], ◌∷◌, Option, Some, None, Result, Ok}
use Rattle.std.proofs.Math.Logic.{∥∥₁_elim, ∥∥₁_map}
use Rattle.sqlite_trees.specs.declared.store.Store.{Ghosts}
use Rattle.sqlite.specs.Held.{Held, state}
use Rattle.sqlite.specs.State.{HasCleanDisk}
use Rattle.tc_types.specs.declared.loads.LoadKind.{LoadKind}
use Rattle.tc_types.specs.declared.loads.LoadKind.TheVariants as load_kind
use Rattle.tc_types.specs.declared.refusals.Refusal.{Refusal}
use Rattle.tc_types.specs.declared.refusals.Refusal.TheVariants.{Stopped}
use Rattle.tc_front.specs.declared.paths.Post.TheVariants as paths
use Rattle.tc_store.specs.Ledgers.{KeptAnswer, Ledger}
use Rattle.tc_store.specs.Told.{IsTold}
use Rattle.tc_front.specs.Front.{Asked, asks, posts, refuses, shows, tells}
use Rattle.tc_desk.specs.Replies.{Reply, refusal_reply}
use Rattle.tc_room.specs.declared.callers.Caller.{Caller}
use Rattle.tc_book.specs.Book.{Book}
use Rattle.tc_room.specs.Calls.{ActsAnew, AnswersActCall, AnswersLoadCall, FailsLook, IsMadeOnce, KeepsAll, LoadsAnew, Makes, MakesNothing, StaysSo, kept_after, kept_for}
use Rattle.tc_room.specs.Room.{MakesBook}
use Rattle.sqlite_trees.specs.Tree.{Trees}
use Rattle.tc_room.specs.Crash.{HasRows, Leaves, ledger_of}
use Rattle.tc_room.specs.Joined.{HoldsBook, IsKept, LinkState, Standing}
use Rattle.tc_room.specs.Replies.{ended, is_refused}
use Rattle.tc_room.proofs.CallLemmas.{act_call_held, call_kept, keeps_with, load_call_held, refuses as are_refused}
use Rattle.tc_api.specs.declared.endings.Ending.{Ending}
use Rattle.tc_api.specs.declared.endings.Ending.TheVariants as ending
use Rattle.tc_api.specs.Acts.{ActCall}
use Rattle.tc_api.specs.Each.{CallsOnce}
use Rattle.tc_api.specs.Endings.{is_done}
use Rattle.tc_api.specs.Exchange.{response_by, response_to}
use Rattle.tc_api.specs.Kept.{Called, FailsTables, GoesThrough, IsCallOf, IsDoneOnce, IsRepeated, IsTheSame, KeepsTables, OpensNext, Refused, RefusesAll, ServesOne, Stage, StopsWithNothing, exchange, opening}
use Rattle.tc_api.specs.Loads.{JudgesLoadPost, LoadCall}
use Rattle.tc_api.specs.Responses.{response_bytes}
use Rattle.tc_api.specs.Serving.{EndsWith, FindsNoMemory, IsOutcome, Outcome, Serves, ServesActCall, ServesLoadCall, ServesText}
use Rattle.tc_api.proofs.KeptLemmas.{act_call_goes, all_held, all_more, all_same, at_flag, by_flag, load_call_goes, not_both, read_keeps}

-- what is known of a call that was answered
record Seen {S : Type 0} (g : Ghosts S) (caller : Caller) (old : Standing S) (outcome : Outcome) (new : Standing S) : Type 0 where
  asks_act : Bool
  ends : IsOutcome asks_act outcome
  -- a room that has stopped says so; else the kept replies could not be read, or what is kept is the answer and nothing is done, or nothing was kept
  answers : (replies : List KeptAnswer) → HoldsBook g old replies → HasCleanDisk (state g new.tables) → MatchBool old.stopped
      ((outcome.reply ≡ refusal_reply Stopped) × (new ≡ old))
      (FailsLook g replies caller old outcome.reply new
      ⊎ ((kept_for replies caller ≡ Some (ended outcome.reply)) × (is_refused outcome.reply ≡ false) × (asks_act ≡ true) × StaysSo g replies old new)
      ⊎ (kept_for replies caller ≡ None))
  held : (replies : List KeptAnswer) → HoldsBook g old replies → HoldsBook g new (kept_after replies caller asks_act outcome.reply)
  kept : (replies : List KeptAnswer) → HoldsBook g old replies → HasCleanDisk (state g new.tables) → asks_act ≡ true → is_refused outcome.reply ≡ false
      → kept_for (kept_after replies caller asks_act outcome.reply) caller ≡ Some (ended outcome.reply)
  -- one that is accepted stops no room
  going : is_refused outcome.reply ≡ false → (replies : List KeptAnswer) → HoldsBook g old replies → HasCleanDisk (state g new.tables) → new.stopped ≡ false

weaker : (b : Bool) (A B C : Type 0) → (B → C) → MatchBool b A B → MatchBool b A C
weaker true A B C make m = m
weaker false A B C make m = make m

forget : {S : Type 0} (g : Ghosts S) (replies : List KeptAnswer) (caller : Caller) (old new : Standing S) (asks_act : Bool) (reply : Reply) (Anew : Type 0)
    → FailsLook g replies caller old reply new ⊎ ((kept_for replies caller ≡ Some (ended reply)) × (is_refused reply ≡ false) × (asks_act ≡ true) × StaysSo g replies old new) ⊎ ((kept_for replies caller ≡ None) × Anew)
    → FailsLook g replies caller old reply new ⊎ ((kept_for replies caller ≡ Some (ended reply)) × (is_refused reply ≡ false) × (asks_act ≡ true) × StaysSo g replies old new) ⊎ (kept_for replies caller ≡ None)
forget g replies caller old new asks_act reply Anew (inl fails) = inl fails
forget g replies caller old new asks_act reply Anew (inr (inl repeats)) = inr (inl repeats)
forget g replies caller old new asks_act reply Anew (inr (inr anew)) = inr (inr anew.0)

-- there was no memory to read what was posted, or it was called
abbrev Came : {S : Type 0} → Ghosts S → Caller → Standing S → Outcome → Standing S → Type 0
Came g caller old outcome new = FindsNoMemory old outcome new ⊎ Seen g caller old outcome new

module _ {S : Type 0} (g : Ghosts S) (caller : Caller) (old : Standing S) (outcome : Outcome) (new : Standing S) where
  act_seen : (call : ActCall) (given : Result ActCall Refusal) → given ≡ Ok call → call.caller ≡ caller → ServesActCall g old given outcome new → Seen g caller old outcome new
  act_seen call given is by serves =
      let served : ServesActCall g old (Ok call) outcome new = subst (λ (r : Result ActCall Refusal). ServesActCall g old r outcome new) is serves in
      let answers : AnswersActCall g caller call.moment call.text old served.0 outcome.reply new = subst (λ (c : Caller). AnswersActCall g c call.moment call.text old served.0 outcome.reply new) by served.1 in
      record {
        asks_act = served.0;
        ends = served.2;
        answers = λ replies held clean. weaker old.stopped _ _ _ (forget g replies caller old new served.0 outcome.reply _) (answers replies held clean);
        kept = λ replies held clean is granted. call_kept g replies caller old served.0 outcome.reply new (λ replies acts reply new. ActsAnew g call.moment call.text replies caller old acts reply new) answers held clean is granted;
        held = λ replies held. act_call_held g replies caller old served.0 outcome.reply new call.moment call.text answers held;
        going = λ granted. act_call_goes g caller old new served.0 outcome.reply granted call.moment call.text answers;
      }

  load_seen : (kind : LoadKind) (call : LoadCall) (given : Result LoadCall Refusal) → given ≡ Ok call → call.caller ≡ caller → ServesLoadCall g old kind given outcome new → Seen g caller old outcome new
  load_seen kind call given is by serves =
      let served : ServesLoadCall g old kind (Ok call) outcome new = subst (λ (r : Result LoadCall Refusal). ServesLoadCall g old kind r outcome new) is serves in
      let answers : AnswersLoadCall g caller kind call.moment call.name call.csv old served.0 outcome.reply new =
      subst (λ (c : Caller). AnswersLoadCall g c kind call.moment call.name call.csv old served.0 outcome.reply new) by served.1 in
      record {
        asks_act = served.0;
        ends = served.2;
        answers = λ replies held clean. weaker old.stopped _ _ _ (forget g replies caller old new served.0 outcome.reply _) (answers replies held clean);
        kept = λ replies held clean is granted. call_kept g replies caller old served.0 outcome.reply new (λ replies acts reply new. LoadsAnew g kind call.moment call.name call.csv replies caller old acts reply new) answers held clean is granted;
        held = λ replies held. load_call_held g replies caller old served.0 outcome.reply new kind call.moment call.name call.csv answers held;
        going = λ granted. load_call_goes g caller old new served.0 outcome.reply granted kind call.moment call.name call.csv answers;
      }

  text_seen : (kind : LoadKind) (body : List ℕ) → (call : LoadCall) × JudgesLoadPost body (Ok call) × (call.caller ≡ caller) → ServesText g old kind body outcome new → Seen g caller old outcome new
  text_seen kind body (call, judged, by) (given, read, serves) = load_seen kind call given (sym (read.only (Ok call) judged)) by serves

  came : (since : ℕ) (asked : Asked) → Serves since g old asked outcome new → IsCallOf caller asked → Came g caller old outcome new
  came since (refuses why) serves calls = absurd calls
  came since (asks query) serves calls = absurd calls
  came since shows serves calls = absurd calls
  came since tells serves calls = absurd calls
  came since (posts paths.Acts body) serves (call, judged, by) = elim serves.served [
    | inl none ↦ inl none
    | inr given ↦ inr (act_seen call given.0 (sym (given.1.only (Ok call) judged)) by given.2)
  ]
  came since (posts paths.Stacks body) serves calls = elim serves.served [ inl none ↦ inl none | inr given ↦ inr (text_seen load_kind.Stack body calls given) ]
  came since (posts paths.Procedures body) serves calls = elim serves.served [ inl none ↦ inl none | inr given ↦ inr (text_seen load_kind.Procedure body calls given) ]

-- ---- what is done

-- an act that stands is done, and its reply is no refusal
stands_acts : (a b : Bool) → (a && b) ≡ true → (a ≡ true) × (b ≡ true)
stands_acts true b is = (refl, is)
stands_acts false b is = absurd cc

done_is : (e : Ending) → is_done e ≡ true → e ≡ ending.Done
done_is ending.Done is = refl
done_is (ending.Refused refusal) is = absurd cc
done_is ending.Foreign is = absurd cc
done_is ending.NoPath is = absurd cc
done_is ending.OtherMethod is = absurd cc

grants : (reply : Reply) (e : Ending) → EndsWith reply e → e ≡ ending.Done → is_refused reply ≡ false
grants reply e ends is = subst (λ (given : Ending). EndsWith reply given) is ends

-- a reply that refuses nothing ends with Done
ends_done : (reply : Reply) (e : Ending) → EndsWith reply e → is_refused reply ≡ false → e ≡ ending.Done
ends_done reply ending.Done ends granted = refl
ends_done reply (ending.Refused refusal) ends granted = not_both (is_refused reply) (ap is_refused ends ∙ are_refused refusal) granted
ends_done reply ending.Foreign ends granted = absurd ends
ends_done reply ending.NoPath ends granted = absurd ends
ends_done reply ending.OtherMethod ends granted = absurd ends

-- outcomes that end so, with one text, have one response
one_response : (first again : Outcome) → first.page ≡ None → again.page ≡ None → first.ending ≡ ending.Done → again.ending ≡ ending.Done → ended again.reply ≡ ended first.reply → response_to again ≡ response_to first
one_response first again plain still was is same =
    ap (λ (p : Option (List ℕ)). response_by p again.ending again.reply) still
    ∙ ap (λ (e : Ending). response_bytes e (ended again.reply)) (is ∙ sym was)
    ∙ ap (λ (text : List ℕ). response_bytes first.ending text) same
    ∙ sym (ap (λ (p : Option (List ℕ)). response_by p first.ending first.reply) plain)

-- ---- what comes between

-- tables with rows that are told by their columns, and with each of these replies
abbrev HasAll : List KeptAnswer → Ledger → Type 0
HasAll replies ledger = IsTold ledger.image × KeepsAll replies ledger.replies

has_all : (replies after : List KeptAnswer) (book : Book) (ledger : Ledger) → IsKept book → KeepsAll replies after → ledger ≡ ledger_of book after → HasAll replies ledger
has_all replies after book ledger kept keeps is = subst (HasAll replies) (sym is) (kept.told, keeps)

leaves_more : {S : Type 0} (g : Ghosts S) (tables : Held S) (May Will : Ledger → Type 0) → ((ledger : Ledger) → May ledger → Will ledger) → Leaves g tables May → Leaves g tables Will
leaves_more g tables May Will more leaves trees may = let left = leaves trees may in (left.0, more left.0 left.1, left.2)

-- What a room holds of these replies: each of them beside its book, while it goes on; and, whether it goes on or has stopped, whatever a crash leaves has each of them.
record HoldsStill {S : Type 0} (g : Ghosts S) (replies : List KeptAnswer) (room : Standing S) : Type 0 where
  kept : IsKept room.desk.book
  after : List KeptAnswer
  keeps : KeepsAll replies after
  holds : HoldsBook g room after
  leaves : HasCleanDisk (state g room.tables) → Leaves g room.tables (HasAll replies)

module _ {S : Type 0} (g : Ghosts S) (replies : List KeptAnswer) where
  -- a room that goes on
  going_leaves : (room : Standing S) (after : List KeptAnswer) → room.stopped ≡ false → IsKept room.desk.book → KeepsAll replies after → HoldsBook g room after
      → HasCleanDisk (state g room.tables) → Leaves g room.tables (HasAll replies)
  going_leaves room after going kept keeps holds clean =
      leaves_more g room.tables (λ ledger. ledger ≡ ledger_of room.desk.book after) (HasAll replies) (λ ledger is. has_all replies after room.desk.book ledger kept keeps is) (holds going clean).leaves

  -- a call at which the database failed is there with its reply, or not at all
  made_all : (before : Book) (after : List KeptAnswer) (caller : Caller) (Does : Reply → LinkState → Type 0) (ledger : Ledger) → IsKept before → KeepsAll replies after → IsMadeOnce before after caller Does ledger
      → HasAll replies ledger
  made_all before after caller Does ledger kept keeps (inl same) = has_all replies after before ledger kept keeps same
  made_all before after caller Does ledger kept keeps (inr made) =
      subst (HasAll replies) (sym made.4) (made.3.told, all_more replies after _ keeps (keeps_with after caller made.0))

  failed_leaves : (old new : Standing S) (after : List KeptAnswer) → IsKept old.desk.book → KeepsAll replies after → FailsTables g after old new → Leaves g new.tables (HasAll replies)
  failed_leaves old new after kept keeps (inl (stamp, given, reply, fails)) =
      leaves_more g new.tables (λ ledger. (ledger ≡ ledger_of old.desk.book after) ⊎ ((book : Book) × MakesBook old.desk stamp given book × (ledger ≡ ledger_of book after))) (HasAll replies)
      (λ ledger left. elim left [
        | inl same ↦ has_all replies after old.desk.book ledger kept keeps same
        | inr made ↦ has_all replies after made.0 ledger made.1.4 keeps made.2
      ]) fails.crash
  failed_leaves old new after kept keeps (inr (caller, making, reply, fails)) =
      leaves_more g new.tables (IsMadeOnce old.desk.book after caller (Makes old.desk making)) (HasAll replies)
      (λ ledger left. made_all old.desk.book after caller (Makes old.desk making) ledger kept keeps left) fails.crash

  -- one exchange
  one_still : (old new : Standing S) (read : Option Asked) → ServesOne g old read new → HoldsStill g replies old → HoldsStill g replies new
  one_still old new read one was =
      let tables : KeepsTables g old new = read_keeps g old new read one.served in
      let mid = tables.held was.after was.holds in
      record {
        kept = one.kept;
        after = mid.0;
        keeps = all_more replies was.after mid.0 was.keeps mid.1;
        holds = mid.2;
        leaves = λ clean. at_flag new.stopped (Leaves g new.tables (HasAll replies))
            (λ now. at_flag old.stopped (Leaves g new.tables (HasAll replies))
            (λ had. stayed old new (tables.stays clean had) clean was)
            (λ went. failed_leaves old new was.after was.kept was.keeps (tables.failed was.after was.holds clean went now)))
            (λ goes. going_leaves new mid.0 goes one.kept (all_more replies was.after mid.0 was.keeps mid.1) mid.2 clean);
      }
    where
      stayed : (old new : Standing S) → new ≡ old → HasCleanDisk (state g new.tables) → HoldsStill g replies old → Leaves g new.tables (HasAll replies)
      stayed old new same clean was =
          subst (λ (s : Standing S). Leaves g s.tables (HasAll replies)) (sym same) (was.leaves (subst (λ (s : Standing S). HasCleanDisk (state g s.tables)) same clean))

  -- openings that were refused
  refused_still : (from left : Trees) (refused : List Refused) → (ledger : Ledger) × HasAll replies ledger × HasRows from ledger → RefusesAll from refused left → (ledger : Ledger) × HasAll replies ledger × HasRows left ledger
  refused_still from left [] found same = (found.0, found.1, subst (λ (trees : Trees). HasRows trees found.0) (sym same) found.2)
  refused_still from left (one ∷ others) found (mid, inl same, later) = refused_still mid left others (found.0, found.1, subst (λ (trees : Trees). HasRows trees found.0) (sym same) found.2) later
  refused_still from left (one ∷ others) found (mid, inr opens, later) =
      let to = opens found.0 found.2 found.1.0 in
      refused_still mid left others (ledger_of to.2.book found.0.replies, (to.4.told, found.1.1), to.5) later

  -- the next room
  opened_still : (last next : Standing S) (opens : OpensNext g last next) → (state g last.tables).may_leave opens.from → HoldsStill g replies last → HoldsStill g replies next
  opened_still last next opens left was =
      let found = refused_still opens.from opens.trees opens.refused (was.leaves opens.clean opens.from left) opens.refuses_all in
      let opened = opens.opened found.0 found.1.0 found.2 in
      let keeps : KeepsAll replies found.0.replies = found.1.1 in
      record {
        kept = opens.kept;
        after = found.0.replies;
        keeps = keeps;
        holds = λ going clean. opened.tables;
        leaves = λ clean. going_leaves next found.0.replies opened.going opens.kept keeps (λ going clean. opened.tables) clean;
      }

through : {S : Type 0} (g : Ghosts S) (replies : List KeptAnswer) (stages : List Stage) (start end : Standing S) → GoesThrough g start stages end → HoldsStill g replies start → ∥ HoldsStill g replies end ∥₁
through {S} g replies [] start end same was = ∣ subst (HoldsStill g replies) (sym same) was ∣₁
through g replies (exchange read ∷ others) start end (next, one, later) was = through g replies others next end later (one_still g replies start next read one was)
through g replies (opening ∷ others) start end (next, opens, later) was =
    ∥∥₁_elim opens.left squash₁ (λ left. through g replies others next end later (opened_still g replies start next opens left was))

before_only : (book : Book) (replies : List KeptAnswer) (caller : Caller) (ledger : Ledger) → IsMadeOnce book replies caller MakesNothing ledger → ledger ≡ ledger_of book replies
before_only book replies caller ledger (inl same) = same
before_only book replies caller ledger (inr made) = absurd made.2

-- nothing was to be made, so a crash leaves what the files held
leaves_nothing : {S : Type 0} (g : Ghosts S) (replies : List KeptAnswer) (caller : Caller) (old new : Standing S) (reply : Reply) → FailsLook g replies caller old reply new
    → StopsWithNothing g replies old reply new
leaves_nothing g replies caller old new reply fails = record {
  reply = fails.fails.reply;
  stopped = fails.fails.stopped;
  desk = fails.desk;
  files = λ trees may.
      let left = fails.fails.crash trees may in (left.0, before_only old.desk.book replies caller left.0 left.1, left.2);
}

-- ---- a call that comes again

module _ {S : Type 0} (g : Ghosts S) (caller : Caller) (first again : Outcome) (last end : Standing S) (replies : List KeptAnswer) where
  same_again : first.page ≡ None → first.ending ≡ ending.Done → kept_for replies caller ≡ Some (ended first.reply) → HoldsBook g last replies → HasCleanDisk (state g end.tables) → Seen g caller last again end → IsTheSame g replies first last again end
  same_again plain done kept held clean seen = by_flag last.stopped _ _ _ (seen.answers replies held clean)
      (λ _ told. inr (inl told))
      (λ _ answered. elim answered [
        | inl fails ↦ inr (inr (inl (leaves_nothing g replies caller last end again.reply fails)))
        | inr (inl repeats) ↦
            let same : ended again.reply ≡ ended first.reply = (let e : (let some : Option (List ℕ) = Some (ended again.reply) in some) ≡ Some (ended first.reply) = sym repeats.0 ∙ kept in cc) in
            inl (one_response first again plain seen.ends.page done (ends_done again.reply again.ending seen.ends.ends repeats.1) same, repeats.3.desk)
        | inr (inr none) ↦ absurd (let e : (let some : Option (List ℕ) = Some (ended first.reply) in some) ≡ None = sym kept ∙ none in cc)
      ])

  came_again : first.page ≡ None → first.ending ≡ ending.Done → kept_for replies caller ≡ Some (ended first.reply) → HoldsBook g last replies → HasCleanDisk (state g end.tables) → Came g caller last again end → IsTheSame g replies first last again end
  came_again plain done kept held clean (inl none) = inr (inr (inr none))
  came_again plain done kept held clean (inr seen) = same_again plain done kept held clean seen

module _ {S : Type 0} (g : Ghosts S) (caller : Caller) (start : Standing S) (replies : List KeptAnswer) (first : Outcome) (next : Standing S) where
  seen_once : HoldsBook g start replies → HasCleanDisk (state g next.tables) → IsKept next.desk.book → first.stands ≡ true → Seen g caller start first next → IsDoneOnce g caller first next
  seen_once held clean good stands seen =
      let both = stands_acts seen.asks_act (is_done first.ending) (sym seen.ends.stands ∙ stands) in
      let done : first.ending ≡ ending.Done = done_is first.ending both.1 in
      let granted : is_refused first.reply ≡ false = grants first.reply first.ending seen.ends.ends done in
      let after : List KeptAnswer = kept_after replies caller seen.asks_act first.reply in
      let kept : kept_for after caller ≡ Some (ended first.reply) = seen.kept replies held clean both.0 granted in
      let holds : HoldsBook g next after = seen.held replies held in
      let still : HoldsStill g after next = record {
        kept = good;
        after = after;
        keeps = all_same after;
        holds = holds;
        leaves = going_leaves g after next after (seen.going granted replies held clean) good (all_same after) holds;
      } in
      record {
        again = λ stages last goes again end called.
            ∥∥₁_map (through g after stages next last goes still) (λ now.
            let later : kept_for now.after caller ≡ Some (ended first.reply) = now.keeps caller (ended first.reply) kept in
            let r : IsRepeated g caller first last again end = (
              now.after,
              later,
              came_again g caller first again last end now.after seen.ends.page done later now.holds called.clean
                  (came g caller last again end called.since called.asked called.serves called.calls),
            ) in r);
      }

  -- an act or a load that was called, and that stands, is done once
  pub done_once : HoldsBook g start replies → Called g caller start first next → first.stands ≡ true → IsDoneOnce g caller first next
  done_once held called stands = elim (came g caller start first next called.since called.asked called.serves called.calls) [
    | inl none ↦ absurd (let e : (let no : Bool = false in no) ≡ true = sym (ap (λ (o : Outcome). o.stands) none.0) ∙ stands in cc)
    | inr seen ↦ seen_once held called.clean called.kept stands seen
  ]

-- ---- a list of exchanges

-- what one of them accepted is done once
pub calls_once : {S : Type 0} (g : Ghosts S) (start : Standing S) (reads : List (Option Asked)) → CallsOnce g start reads
calls_once g start reads = record {
  once = λ replies held before after last next caller first serves called among stands.
      let mid = all_held g start last before replies serves held in done_once g caller last mid.0 first next mid.2 called stands;
}
