-- What is done once: an act or a load with its reply in one batch, and how the answer to a call is put together.
use Rattle.std.proofs.Common.{◌≡◌, ◌∙◌, ◌⊎◌, inl, inr, arith, ℕ, Bool, true, false, not, Option, Some, None, Result, Ok, Err, List, [], ◌∷◌, ◌++◌, refl, sym, ap, subst, IfOk, IsTrue, MatchBool, string_bytes}
use Rattle.std.specs.Result.{result_ok}
use Rattle.std.proofs.lemmas.Bool.{MatchBool-at_false}
use Rattle.std.specs.declared.string.String.{String}
use Rattle.std.specs.declared.alloc.Global.{Global}
use Rattle.sqlite_trees.specs.declared.store.Store.{Ghosts}
use Rattle.sqlite_trees.specs.Tree.{Trees}
use Rattle.sqlite.specs.Held.{Held, state}
use Rattle.sqlite.specs.State.{HasCleanDisk, Survives}
use Rattle.tc_types.specs.declared.acts.Act.{Act}
use Rattle.tc_types.specs.declared.acts.Act.TheVariants as act
use Rattle.tc_types.specs.declared.acts.Line.{Line}
use Rattle.tc_types.specs.declared.acts.Query.{Query}
use Rattle.tc_types.specs.declared.link.frames.Frame.{Frame}
use Rattle.tc_types.specs.declared.link.reports.Report.{Report}
use Rattle.tc_types.specs.declared.loads.LoadKind.{LoadKind}
use Rattle.tc_types.specs.declared.refusals.Refusal.{Refusal}
use Rattle.tc_types.specs.declared.refusals.Refusal.TheVariants.{BadText, Store, TooLong}
use Rattle.tc_types.specs.declared.tables.rows.Row.{Row}
use Rattle.tc_types.specs.ActGrammar.{SpellsAct}
use Rattle.tc_types.specs.Tables.{Image, applied}
use Rattle.tc_world.specs.EitherLink.{either}
use Rattle.tc_book.specs.declared.stamps.Stamp.{Stamp}
use Rattle.tc_book.specs.Book.{Book}
use Rattle.tc_book.specs.Tables.{image_of}
use Rattle.tc_desk.specs.Acts.{is_question, refusal_of}
use Rattle.tc_desk.specs.Machine.{DeskStep, stamp_of}
use Rattle.tc_desk.specs.Replies.{Reply, refusal_reply}
use Rattle.tc_desk.specs.State.{DeskState}
use Rattle.tc_store.specs.Ledgers.{IsKeptText, KeptAnswer, Ledger, with_image}
use Rattle.tc_store.specs.Schema.{Holds}
use Rattle.tc_store.specs.Steps.{LeavesOnly}
use Rattle.tc_room.specs.declared.callers.Caller.{Caller}
use Rattle.tc_room.specs.declared.calls.Called.{Called}
use Rattle.tc_room.specs.Answers.{Asks, Says}
use Rattle.tc_room.specs.Calls.{ActsAnew, AnswersCall, AsksOnce, IsAnew, IsCalled, IsMadeOnce, JudgesActText, LoadsAnew, LooksUp, MakesOnce, StaysSo, kept_with, with_reply}
use Rattle.tc_room.specs.Crash.{HasRows, Leaves, ledger_of}
use Rattle.tc_room.specs.Joined.{HasLedger, HoldsBook, Link, LinkState, Standing, desk_in}
use Rattle.tc_room.specs.Replies.{AreLines, ended, is_refused}
use Rattle.tc_room.specs.Room.{FailsStore, RoomStep, StepsDesk}
use Rattle.tc_room.proofs.CallLemmas.{kept_as, kept_lines}
use Rattle.tc_room.proofs.LoadLemmas.{on_false}
use Rattle.tc_room.proofs.TableLemmas.{left_by, made_or, only_ledger}

-- ---- the tables

-- what tables leave that hold a ledger is one of more
pub leaves_some : {S : Type 0} (g : Ghosts S) (tables : Held S) (ledger : Ledger) (Might : Ledger → Type 0) → Leaves g tables (λ left. left ≡ ledger) → Might ledger → Leaves g tables Might
leaves_some g tables ledger Might leaves might = λ trees may. let was = leaves trees may in (was.0, subst Might (sym was.1) might, was.2)

module _ {S : Type 0} (g : Ghosts S) (old new : Held S) (before after : Book) (replies : List KeptAnswer) (caller : Caller) (reply : Reply) (rows : List Row) where
  with_more : is_refused reply ≡ false → applied rows (image_of before) ≡ image_of after → with_reply caller (ended reply) (with_image rows (ledger_of before replies)) ≡ ledger_of after (kept_with replies caller reply)
  with_more granted makes = rw granted (ap (λ (image : Image). let l : Ledger = record { image = image; replies = replies ++ kept_as caller reply ∷ [] } in l) makes)

  -- what was done was written, and its reply with it
  pub kept_done : {Commits : Trees → Type 0} → is_refused reply ≡ false → applied rows (image_of before) ≡ image_of after → Survives (state g old) (state g new) Commits → HasCleanDisk (state g new)
      → (HasCleanDisk (state g old) → HasLedger g old (ledger_of before replies))
      → ((ledger : Ledger) → Holds (state g old).now ledger → Holds (state g new).now (with_reply caller (ended reply) (with_image rows ledger)))
      → LeavesOnly (state g new) (state g new).now.trees → HasLedger g new (ledger_of after (kept_with replies caller reply))
  kept_done granted makes left clean held writes only =
      only_ledger g new (ledger_of after (kept_with replies caller reply))
      (subst (λ (l : Ledger). Holds (state g new).now l) (with_more granted makes) (writes (ledger_of before replies) (held (omega (arith, clean, left.clean))).holds)) only

  -- or it was not: a crash leaves what the tables held, or all of it
  pub leaves_done : is_refused reply ≡ false → applied rows (image_of before) ≡ image_of after
      → Survives (state g old) (state g new) (λ trees. (ledger : Ledger) → Holds (state g old).now ledger → HasRows trees (with_reply caller (ended reply) (with_image rows ledger))) → HasCleanDisk (state g new)
      → (HasCleanDisk (state g old) → HasLedger g old (ledger_of before replies)) → (Might : Ledger → Type 0) → Might (ledger_of before replies) → Might (ledger_of after (kept_with replies caller reply)) → Leaves g new Might
  leaves_done granted makes left clean held Might stays does =
      let has : HasLedger g old (ledger_of before replies) = held (omega (arith, clean, left.clean)) in
      λ trees may. left_by
      (made_or (left.crash clean trees may)
      (λ rows_are. (ledger_of after (kept_with replies caller reply), does, subst (HasRows trees) (with_more granted makes) (rows_are (ledger_of before replies) has.holds))))
      (λ was. leaves_some g old (ledger_of before replies) Might has.leaves stays trees was)

-- the text that was made of a reply
pub ok_text : {E : Type 0} (result : Result (String Global) E) (text : String Global) (body : List ℕ) → (let some : Option (String Global) = Some text in some) ≡ result_ok result → IfOk result (λ made. string_bytes made ≡ body)
    → string_bytes text ≡ body
ok_text (Ok made) text body same is = let e : text ≡ made = cc in ap string_bytes e ∙ is
ok_text (Err e) text body same is = absurd (let none : Option (String Global) = None in let e : Some text ≡ none = same in cc)

-- ---- what was made

module _ {S : Type 0} (g : Ghosts S) (old new : Standing S) (caller : Caller) (Makes : Reply → LinkState → Type 0) (Free : Type 0) where
  -- what the tables tell of it, with this reply
  abbrev IsMade : Reply → Type 0
  IsMade reply = IsAnew g (λ replies acts reply new. MakesOnce g replies caller Makes Free old reply new) old true reply new

  -- it was done
  pub makes_done : (reply : Reply) → Makes reply new.desk
      → ((replies : List KeptAnswer) → HoldsBook g old replies → HasCleanDisk (state g new.tables) → HasLedger g new.tables (ledger_of new.desk.book (kept_with replies caller reply)))
      → new.opened ≡ old.opened → new.stopped ≡ false → IsMade reply
  makes_done reply makes holds opened goes = λ replies held clean. inl (record { desk = makes; tables = holds replies held clean; opened = opened; going = goes })

  -- the desk refused
  pub makes_refused : (refusal : Refusal) → Makes (refusal_reply refusal) new.desk
      → ((replies : List KeptAnswer) → HoldsBook g old replies → HasCleanDisk (state g new.tables) → HasLedger g new.tables (ledger_of new.desk.book replies))
      → new.opened ≡ old.opened → new.stopped ≡ false → IsMade (refusal_reply refusal)
  makes_refused refusal makes holds opened goes = λ replies held clean. inl (record { desk = makes; tables = holds replies held clean; opened = opened; going = goes })

  -- the database failed
  pub makes_failed : Free → new.stopped ≡ true
      → ((replies : List KeptAnswer) → HoldsBook g old replies → HasCleanDisk (state g new.tables) → IsTrue (state g new.tables).is_open → Holds (state g new.tables).now (ledger_of old.desk.book replies))
      → ((replies : List KeptAnswer) → HoldsBook g old replies → HasCleanDisk (state g new.tables) → Leaves g new.tables (IsMadeOnce old.desk.book replies caller Makes))
      → new.opened ≡ old.opened → IsMade (refusal_reply Store)
  makes_failed free stopped holds leaves opened =
      λ replies held clean. inr (free, record { reply = refl; stopped = stopped; tables = holds replies held clean; crash = leaves replies held clean; opened = opened })

-- ---- a room that looked at its kept replies is as it was but for its tables

map_match : (b : Bool) {A B C D : Type 0} → (A → C) → (B → D) → MatchBool b A B → MatchBool b C D
map_match true one other is = one is
map_match false one other is = other is

-- a room with this desk
abbrev at_desk : {S : Type 0} → DeskState (Link Frame) (Link Report) → Held S → Bool → Standing S
at_desk desk tables stopped = record { desk = desk.parts; opened = desk.opened; whole = desk.whole; tables = tables; stopped = stopped }

-- what is done says nothing of the tables that stood before
module _ {S : Type 0} (g : Ghosts S) (replies : List KeptAnswer) (caller : Caller) (desk : DeskState (Link Frame) (Link Report)) (first second : Held S) (one other : Bool) (new : Standing S) where
  stays_from : StaysSo g replies (at_desk desk first one) new → StaysSo g replies (at_desk desk second other) new
  stays_from stays = record { desk = stays.desk; tables = stays.tables; opened = stays.opened; whole = stays.whole; going = stays.going }

  makes_from : {Makes : Reply → LinkState → Type 0} {Free : Type 0} (reply : Reply) → MakesOnce g replies caller Makes Free (at_desk desk first one) reply new → MakesOnce g replies caller Makes Free (at_desk desk second other) reply new
  makes_from reply (inl does) = inl (record { desk = does.desk; tables = does.tables; opened = does.opened; going = does.going })
  makes_from reply (inr (free, fails)) = inr (free, record { reply = fails.reply; stopped = fails.stopped; tables = fails.tables; crash = fails.crash; opened = fails.opened })

  asked_from : (stamp : Stamp) (given : Act) (reply : Reply) → StepsDesk g replies (at_desk desk first one) stamp given reply new ⊎ FailsStore g replies (at_desk desk first one) stamp given reply new
      → StepsDesk g replies (at_desk desk second other) stamp given reply new ⊎ FailsStore g replies (at_desk desk second other) stamp given reply new
  asked_from stamp given reply (inl steps) = inl (record { desk = steps.desk; urgent = steps.urgent; tables = steps.tables; opened = steps.opened; going = steps.going })
  asked_from stamp given reply (inr fails) = inr (record { free = fails.free; reply = fails.reply; stopped = fails.stopped; tables = fails.tables; crash = fails.crash; opened = fails.opened })

  acts_from : (moment : Option ℕ) (text : List ℕ) (acts : Bool) (reply : Reply) → ActsAnew g moment text replies caller (at_desk desk first one) acts reply new → ActsAnew g moment text replies caller (at_desk desk second other) acts reply new
  acts_from moment text acts reply (inl (refusal, judged, is, stays)) = inl (refusal, judged, is, stays_from stays)
  acts_from moment text acts reply (inr (line, judged, (is, answers))) = inr (line, judged, (is, map_match (is_question line.act) (asked_from (stamp_of line) line.act reply) (makes_from reply) answers))

  loads_from : (kind : LoadKind) (moment : Option ℕ) (name csv : List ℕ) (acts : Bool) (reply : Reply) → LoadsAnew g kind moment name csv replies caller (at_desk desk first one) acts reply new
      → LoadsAnew g kind moment name csv replies caller (at_desk desk second other) acts reply new
  loads_from kind moment name csv acts reply (is, inl (refusal, why, which, told, stays)) = (is, inl (refusal, why, which, told, stays_from stays))
  loads_from kind moment name csv acts reply (is, inr (at, some, named, inl (refusal, unread, told, stays))) = (is, inr (at, some, named, inl (refusal, unread, told, stays_from stays)))
  loads_from kind moment name csv acts reply (is, inr (at, some, named, inr (given, spells, makes))) = (is, inr (at, some, named, inr (given, spells, makes_from reply makes)))

module _ {S : Type 0} (g : Ghosts S) (replies : List KeptAnswer) (caller : Caller) (old mid new : Standing S) (same : desk_in mid ≡ desk_in old) where
  pub acts_over : (moment : Option ℕ) (text : List ℕ) (acts : Bool) (reply : Reply) → ActsAnew g moment text replies caller mid acts reply new → ActsAnew g moment text replies caller old acts reply new
  acts_over moment text acts reply anew = subst (λ (desk : DeskState (Link Frame) (Link Report)). ActsAnew g moment text replies caller (at_desk desk old.tables old.stopped) acts reply new) same
      (acts_from g replies caller (desk_in mid) mid.tables old.tables mid.stopped old.stopped new moment text acts reply anew)

  pub loads_over : (kind : LoadKind) (moment : Option ℕ) (name csv : List ℕ) (acts : Bool) (reply : Reply) → LoadsAnew g kind moment name csv replies caller mid acts reply new
      → LoadsAnew g kind moment name csv replies caller old acts reply new
  loads_over kind moment name csv acts reply anew = subst (λ (desk : DeskState (Link Frame) (Link Report)). LoadsAnew g kind moment name csv replies caller (at_desk desk old.tables old.stopped) acts reply new) same
      (loads_from g replies caller (desk_in mid) mid.tables old.tables mid.stopped old.stopped new kind moment name csv acts reply anew)

-- ---- calls

module _ {S : Type 0} (g : Ghosts S) (caller : Caller) (old new : Standing S) (called : Called) (Anew : List KeptAnswer → Bool → Reply → Standing S → Type 0) (Tells : Reply → Standing S → Type 0) where
  -- the room had stopped, or the kept replies could not be read
  pub call_failed : (refusal : Refusal) → LooksUp g caller old (Err refusal) new → Says (refusal_reply refusal) called.answer → new.opened ≡ old.opened → Tells (refusal_reply refusal) new
      → IsCalled (AnswersCall g Anew caller old) Tells old called new
  call_failed refusal looked says opened tells = record {
    reply = refusal_reply refusal;
    made = λ replies held clean. map_match old.stopped (λ was. (ap refusal_reply was.0, was.1)) (λ fails. inl fails) (looked replies held clean);
    says = says;
    opened = opened;
    tells = tells;
  }

  -- a reply is kept
  pub call_again : (text : String Global) → LooksUp g caller old (Ok (Some text)) new → old.stopped ≡ false → IsKeptText (string_bytes text) → called.acts ≡ true
      → ((reply : Reply) → string_bytes text ≡ ended reply → AreLines reply → is_refused reply ≡ false → Says reply called.answer) → new.opened ≡ old.opened → ((reply : Reply) → Tells reply new)
      → IsCalled (AnswersCall g Anew caller old) Tells old called new
  call_again text looked going kept acts says opened tells =
      let lines = kept_lines (string_bytes text) kept in
      record {
        reply = lines.0;
        made = λ replies held clean. let found = looked replies held clean in on_false old.stopped _ _ going (inr (inl (sym found.0 ∙ ap Some lines.1, lines.3, acts, found.1)));
        says = says lines.0 lines.1 lines.2 lines.3;
        opened = opened;
        tells = tells lines.0;
      }

-- none is kept, and it is asked anew
pub call_anew : {S : Type 0} (g : Ghosts S) (caller : Caller) (old mid new : Standing S) (called : Called) (Anew : Standing S → List KeptAnswer → Bool → Reply → Standing S → Type 0)
    (Tells : Standing S → Reply → Standing S → Type 0) → LooksUp g caller old (Ok None) mid → old.stopped ≡ false → mid.opened ≡ old.opened → (HasCleanDisk (state g new.tables) → HasCleanDisk (state g mid.tables))
    → ((replies : List KeptAnswer) (acts : Bool) (reply : Reply) → Anew mid replies acts reply new → Anew old replies acts reply new)
    → ((reply : Reply) → Tells mid reply new → Tells old reply new) → IsCalled (IsAnew g (Anew mid) mid) (Tells mid) mid called new
    → IsCalled (AnswersCall g (Anew old) caller old) (Tells old) old called new
call_anew g caller old mid new called Anew Tells looked going opened cleans over more is = record {
  reply = is.reply;
  made = λ replies held clean. on_false old.stopped _ _ going (inr (inr (
    sym (looked replies held (cleans clean)).0,
    over replies called.acts is.reply (is.made replies
        (λ goes now. let stays = (looked replies held now).1 in subst (λ (desk : LinkState). HasLedger g mid.tables (ledger_of desk.book replies)) (sym stays.desk) stays.tables) clean),
  )));
  says = is.says;
  opened = is.opened ∙ opened;
  tells = more is.reply is.tells;
}

-- nothing was done by what was refused
pub stays_so : {S : Type 0} (g : Ghosts S) (replies : List KeptAnswer) (at : Standing S) → at.stopped ≡ false → HoldsBook g at replies → HasCleanDisk (state g at.tables) → StaysSo g replies at at
stays_so g replies at going held clean = record { desk = refl; tables = held going clean; opened = refl; whole = refl; going = going }

-- a text that was judged to be an act spells it
pub judged_spells : (text by : List ℕ) (moment : Option ℕ) (line : Line) → JudgesActText text by moment (Ok line) → SpellsAct text line.act
judged_spells text by moment line (inl (long, is)) = absurd (let e : (let ok : Result Line Refusal = Ok line in ok) ≡ Err TooLong = is in cc)
judged_spells text by None line (inr (short, is)) = absurd (let e : (let ok : Result Line Refusal = Ok line in ok) ≡ Err BadText = is in cc)
judged_spells text by (Some moment) line (inr (short, judged)) = judged.0

-- what a question is answered, or an act that was done
pub asks_told : {S : Type 0} (g : Ghosts S) (replies : List KeptAnswer) (caller : Caller) (old : Standing S) (line : Line) (asked : Query) (reply : Reply) (new : Standing S) → line.act ≡ act.Ask asked → old.stopped ≡ false
    → HoldsBook g old replies → HasCleanDisk (state g new.tables) → Asks g old asked reply new → AsksOnce g replies caller old line false reply new
asks_told g replies caller old line asked reply new is going held clean asks =
    let step : RoomStep g old (stamp_of line) line.act reply new = subst (λ (given : Act). RoomStep g old (stamp_of line) given reply new) (sym is) (asks (stamp_of line)) in
    let told : is_question line.act ≡ true = ap is_question is in
    rw told (refl, MatchBool-at_false _ _ going (step replies held clean))

pub acts_done : {S : Type 0} (g : Ghosts S) (replies : List KeptAnswer) (caller : Caller) (old : Standing S) (line : Line) (acts : Bool) (reply : Reply) (new : Standing S) → is_question line.act ≡ false → acts ≡ true
    → MakesOnce g replies caller (DeskStep either either old.desk (stamp_of line) line.act) (refusal_of (stamp_of line) old.desk line.act ≡ None) old reply new → AsksOnce g replies caller old line acts reply new
acts_done g replies caller old line acts reply new asks_none is makes = (is ∙ ap not (sym asks_none), on_false (is_question line.act) _ _ asks_none makes)

-- what is no question
pub no_question : (given : Act) → ((asked : Query) → given ≡ act.Ask asked → ⊥) → is_question given ≡ false
no_question (act.Book given) none = refl
no_question (act.Link given) none = refl
no_question (act.Step given) none = refl
no_question (act.Ask asked) none = absurd (none asked refl)
