-- What is asked under a number of its caller, so that it is done once though it comes twice.
use Rattle.std.specs.Prelude.{◌≡◌, ◌⊎◌, ⊤, ◌≤◌, ℕ, Bool, true, false, not, if◌then◌else◌, MatchBool, IsTrue, Option, Some, None, option_map, Result, Ok, Err, List, [], ◌∷◌, ◌++◌, length}
use Rattle.std.specs.declared.string.String.{String}
use Rattle.std.specs.String.{string_bytes}
use Rattle.sqlite_trees.specs.declared.store.Store.{Ghosts}
use Rattle.sqlite.specs.Held.{state}
use Rattle.sqlite.specs.State.{HasCleanDisk}
use Rattle.tc_types.specs.declared.acts.Act.{Act}
use Rattle.tc_types.specs.declared.acts.Line.{Line}
use Rattle.tc_types.specs.declared.loads.LoadKind.{LoadKind}
use Rattle.tc_types.specs.declared.refusals.Refusal.{Refusal}
use Rattle.tc_types.specs.declared.refusals.Refusal.TheVariants.{BadText, Memory, Store, Stopped, TooLong}
use Rattle.tc_types.specs.ActGrammar.{SpellsAct}
use Rattle.tc_types.specs.Names.{IsName}
use Rattle.tc_store.specs.Ledgers.{KeptAnswer, Ledger, reply_at}
use Rattle.tc_world.specs.EitherLink.{either}
use Rattle.tc_book.specs.declared.stamps.Stamp.{Stamp}
use Rattle.tc_book.specs.Acts.{first_refusal}
use Rattle.tc_book.specs.Book.{Book}
use Rattle.std.specs.declared.alloc.Global.{Global}
use Rattle.tc_desk.specs.declared.dones.Done.{Done}
use Rattle.tc_desk.specs.Acts.{is_question, refusal_of}
use Rattle.tc_desk.specs.Promise.{KeepsPromise}
use Rattle.tc_desk.specs.Loads.{Loading, LoadStep, tests_of_load}
use Rattle.tc_desk.specs.Machine.{DeskStep, stamp_of}
use Rattle.tc_desk.specs.Replies.{Reply, act_reply, refusal_reply}
use Rattle.tc_store.specs.Schema.{Holds}
use Rattle.tc_room.specs.declared.answers.Answer.{Answer}
use Rattle.tc_types.specs.declared.refusals.Untold.{Untold}
use Rattle.tc_room.specs.declared.calls.Called.{Called}
use Rattle.tc_room.specs.declared.callers.Caller.{Caller}
use Rattle.tc_room.specs.Answers.{Says}
use Rattle.tc_room.specs.Crash.{Leaves, ledger_of}
use Rattle.tc_room.specs.Joined.{HasLedger, HoldsBook, IsKept, LinkState, Standing, desk_in}
use Rattle.tc_room.specs.Loads.{IsNotRead, IsTooLong, SpellsLoading}
use Rattle.tc_room.specs.Replies.{AreLines, ended, is_refused}
use Rattle.tc_room.specs.Room.{FailsStore, StepsDesk, Stops}

-- ---- what is kept

-- the reply that is kept for a caller under its number
abbrev pub kept_for : List KeptAnswer → Caller → Option (List ℕ)
kept_for replies caller = reply_at replies caller.by caller.number

-- the replies, and this one behind them; a refusal is not kept
abbrev pub kept_with : List KeptAnswer → Caller → Reply → List KeptAnswer
kept_with replies caller reply = if is_refused reply then replies else replies ++ record { person = caller.by; number = caller.number; body = ended reply } ∷ []

-- the replies once a call was answered so: one more where none was kept for its caller, and an act or a load was accepted
abbrev pub kept_once : Option (List ℕ) → List KeptAnswer → Caller → Bool → Reply → List KeptAnswer
kept_once (Some body) replies caller acts reply = replies
kept_once None replies caller acts reply = if acts then kept_with replies caller reply else replies

abbrev pub kept_after : List KeptAnswer → Caller → Bool → Reply → List KeptAnswer
kept_after replies caller acts reply = kept_once (kept_for replies caller) replies caller acts reply

-- each reply that was kept is kept still
abbrev pub KeepsAll : List KeptAnswer → List KeptAnswer → Type 0
KeepsAll replies after = (caller : Caller) (body : List ℕ) → kept_for replies caller ≡ Some body → kept_for after caller ≡ Some body

-- a ledger with one reply more
abbrev pub with_reply : Caller → List ℕ → Ledger → Ledger
with_reply caller body ledger = record ledger { replies = ledger.replies ++ record { person = caller.by; number = caller.number; body = body } ∷ [] }

-- the lines of the reply to what was done
abbrev pub reply_to : Done Global → Reply
reply_to done = act_reply done.first done.said done.moves.items

-- ---- what is done once

-- nothing was done: the desk is as it was, and the tables hold what they held
pub record StaysSo {S : Type 0} (g : Ghosts S) (replies : List KeptAnswer) (old new : Standing S) : Type 0 where
  pub desk : new.desk ≡ old.desk
  pub tables : HasLedger g new.tables (ledger_of old.desk.book replies)
  pub opened : new.opened ≡ old.opened
  pub whole : new.whole ≡ old.whole
  pub going : new.stopped ≡ false

-- What the desk machine makes of what was asked was made, and the tables hold its book, and its reply beside the others.
pub record DoesOnce {S : Type 0} (g : Ghosts S) (replies : List KeptAnswer) (caller : Caller) (Makes : Reply → LinkState → Type 0) (old : Standing S) (reply : Reply) (new : Standing S) : Type 0 where
  pub desk : Makes reply new.desk
  pub tables : HasLedger g new.tables (ledger_of new.desk.book (kept_with replies caller reply))
  pub opened : new.opened ≡ old.opened
  pub going : new.stopped ≡ false

-- the tables of a book with the replies as they were, or of what was made of it, a book that a room keeps, with its reply beside them: all of it, or nothing
abbrev pub IsMadeOnce : Book → List KeptAnswer → Caller → (Reply → LinkState → Type 0) → Ledger → Type 0
IsMadeOnce before replies caller Makes ledger = (ledger ≡ ledger_of before replies)
    ⊎ ((reply : Reply) × (desk : LinkState) × Makes reply desk × IsKept desk.book × (ledger ≡ ledger_of desk.book (kept_with replies caller reply)))

-- The database failed, and the room has stopped. Its tables hold the book and the replies as they were before, where the database is still open. After a
-- crash they hold that, or what was asked is there as a whole with its reply.
pub record FailsOnce {S : Type 0} (g : Ghosts S) (replies : List KeptAnswer) (caller : Caller) (Makes : Reply → LinkState → Type 0) (old : Standing S) (told : Reply) (new : Standing S) : Type 0 where
  pub reply : told ≡ refusal_reply Store
  pub stopped : new.stopped ≡ true
  pub tables : IsTrue (state g new.tables).is_open → Holds (state g new.tables).now (ledger_of old.desk.book replies)
  pub crash : Leaves g new.tables (IsMadeOnce old.desk.book replies caller Makes)
  pub opened : new.opened ≡ old.opened

-- nothing was to be made: a question, or a look at the kept replies
abbrev pub MakesNothing : Reply → LinkState → Type 0
MakesNothing reply desk = ⊥

-- what was asked was made once, or refused; or no test held, and the database failed
abbrev pub MakesOnce : {S : Type 0} → Ghosts S → List KeptAnswer → Caller → (Reply → LinkState → Type 0) → Type 0 → Standing S → Reply → Standing S → Type 0
MakesOnce g replies caller Makes Free old reply new = DoesOnce g replies caller Makes old reply new ⊎ (Free × FailsOnce g replies caller Makes old reply new)

-- in a room whose tables hold its book and any replies, over a disk that gave back what was written, it is so of them
abbrev pub IsAnew : {S : Type 0} → Ghosts S → (List KeptAnswer → Bool → Reply → Standing S → Type 0) → Standing S → Bool → Reply → Standing S → Type 0
IsAnew g What old acts reply new = (replies : List KeptAnswer) → HoldsBook g old replies → HasCleanDisk (state g new.tables) → What replies acts reply new

-- the answer to it: the text of a reply that refuses nothing, or a refusal; and so much is true of the reply and the room, whatever the tables hold
abbrev pub AnswersMaking : {S : Type 0} → Ghosts S → Caller → (Reply → LinkState → Type 0) → Type 0 → (Reply → Standing S → Type 0) → Standing S → Result (String Global) Refusal → Standing S → Type 0
AnswersMaking g caller Makes Free Tells old (Ok text) new = (reply : Reply) × (string_bytes text ≡ ended reply) × AreLines reply × (is_refused reply ≡ false) × Tells reply new
    × IsAnew g (λ replies acts reply new. MakesOnce g replies caller Makes Free old reply new) old true reply new
AnswersMaking g caller Makes Free Tells old (Err refusal) new = Tells (refusal_reply refusal) new
    × IsAnew g (λ replies acts reply new. MakesOnce g replies caller Makes Free old reply new) old true (refusal_reply refusal) new

-- The kept replies could not be read: the room has stopped, and its desk is as it was.
pub record FailsLook {S : Type 0} (g : Ghosts S) (replies : List KeptAnswer) (caller : Caller) (old : Standing S) (told : Reply) (new : Standing S) : Type 0 where
  pub fails : FailsOnce g replies caller MakesNothing old told new
  pub desk : desk_in new ≡ desk_in old

-- the kept replies are looked at, and nothing is done; or they could not be read; or the room had stopped
abbrev pub LooksUp : {S : Type 0} → Ghosts S → Caller → Standing S → Result (Option (String Global)) Refusal → Standing S → Type 0
LooksUp g caller old (Ok found) new = (replies : List KeptAnswer) → HoldsBook g old replies → HasCleanDisk (state g new.tables)
    → (option_map string_bytes found ≡ kept_for replies caller) × StaysSo g replies old new
LooksUp g caller old (Err refusal) new = (replies : List KeptAnswer) → HoldsBook g old replies → HasCleanDisk (state g new.tables) → MatchBool old.stopped
    ((refusal ≡ Stopped) × (new ≡ old))
    (FailsLook g replies caller old (refusal_reply refusal) new)

-- what the desk machine makes of what may be called: of an act, of a load, or of a look at the kept replies
pub data Making : Type 0 where
  an_act : (stamp : Stamp) (given : Act) → Making
  a_load : (stamp : Stamp) (given : Loading) → Making
  a_look : Making

abbrev pub Makes : LinkState → Making → Reply → LinkState → Type 0
Makes old (an_act stamp given) = DeskStep either either old stamp given
Makes old (a_load stamp given) = LoadStep old stamp given
Makes old a_look = MakesNothing

-- ---- acts

-- A test that refuses where it fails, and what comes behind it.
abbrev pub Needs : {X : Type 0} → Type 0 → Refusal → (Result X Refusal → Type 0) → Result X Refusal → Type 0
Needs holds refusal behind outcome = ((¬ holds) × (outcome ≡ Err refusal)) ⊎ (holds × behind outcome)

-- the act that this text spells, by that person, at that moment
abbrev pub JudgesAct : List ℕ → List ℕ → ℕ → Result Line Refusal → Type 0
JudgesAct text by moment (Ok line) = SpellsAct text line.act × (line.by ≡ by) × (line.moment ≡ moment)
JudgesAct text by moment (Err refusal) = ((act : Act) → ¬ (SpellsAct text act)) × (refusal ≡ BadText)

abbrev pub JudgesActMoment : List ℕ → List ℕ → Option ℕ → Result Line Refusal → Type 0
JudgesActMoment text by None outcome = outcome ≡ Err BadText
JudgesActMoment text by (Some moment) outcome = JudgesAct text by moment outcome

-- The tests of an act's text, in their order: it is no longer than 200 bytes, the moment is one, it spells an act.
abbrev pub JudgesActText : List ℕ → List ℕ → Option ℕ → Result Line Refusal → Type 0
JudgesActText text by moment outcome = Needs (length text ≤ 200) TooLong (JudgesActMoment text by moment) outcome

-- A question is answered as ever, and keeps nothing; an act is done once.
abbrev pub AsksOnce : {S : Type 0} → Ghosts S → List KeptAnswer → Caller → Standing S → Line → Bool → Reply → Standing S → Type 0
AsksOnce g replies caller old line acts reply new = (acts ≡ not (is_question line.act)) × MatchBool (is_question line.act)
    (StepsDesk g replies old (stamp_of line) line.act reply new ⊎ FailsStore g replies old (stamp_of line) line.act reply new)
    (MakesOnce g replies caller (DeskStep either either old.desk (stamp_of line) line.act) (refusal_of (stamp_of line) old.desk line.act ≡ None) old reply new)

-- what is asked anew: a text that spells no act, or comes at no moment, is refused
abbrev pub ActsAnew : {S : Type 0} → Ghosts S → Option ℕ → List ℕ → List KeptAnswer → Caller → Standing S → Bool → Reply → Standing S → Type 0
ActsAnew g moment text replies caller old acts reply new =
    ((refusal : Refusal) × JudgesActText text caller.by moment (Err refusal) × (reply ≡ refusal_reply refusal) × StaysSo g replies old new)
    ⊎ ((line : Line) × JudgesActText text caller.by moment (Ok line) × AsksOnce g replies caller old line acts reply new)

-- ---- loads

-- Why a load is refused whose moment is none, or whose name has no form: a text that is too long comes first.
abbrev pub IsUnfit : LoadKind → List ℕ → Refusal → Type 0
IsUnfit kind csv refusal = (IsTooLong kind csv × (refusal ≡ TooLong)) ⊎ ((¬ (IsTooLong kind csv)) × (refusal ≡ BadText))

-- a text with a good moment and name is read, and refused where it breaks a rule, or memory was refused
abbrev pub LoadsTextOnce : {S : Type 0} → Ghosts S → LoadKind → Stamp → List ℕ → List ℕ → List KeptAnswer → Caller → Standing S → Reply → Standing S → Type 0
LoadsTextOnce g kind stamp name csv replies caller old reply new =
    ((refusal : Refusal) × IsNotRead kind csv refusal × (reply ≡ refusal_reply refusal) × StaysSo g replies old new)
    ⊎ ((given : Loading) × SpellsLoading kind name csv given × MakesOnce g replies caller (LoadStep old.desk stamp given) (first_refusal (tests_of_load stamp old.desk.book given) ≡ None) old reply new)

-- what is loaded anew: where the moment is none, or the name has no form, nothing is
abbrev pub LoadsAnew : {S : Type 0} → Ghosts S → LoadKind → Option ℕ → List ℕ → List ℕ → List KeptAnswer → Caller → Standing S → Bool → Reply → Standing S → Type 0
LoadsAnew g kind moment name csv replies caller old acts reply new = (acts ≡ true) × (
    ((refusal : Refusal) × ((moment ≡ None) ⊎ (¬ (IsName name))) × ((refusal ≡ Memory) ⊎ IsUnfit kind csv refusal) × (reply ≡ refusal_reply refusal) × StaysSo g replies old new)
    ⊎ ((at : ℕ) × (moment ≡ Some at) × IsName name × LoadsTextOnce g kind (record { by = caller.by; moment = at }) name csv replies caller old reply new))

-- ---- what is answered

-- What a call is answered in a room whose tables hold its book and these replies, over a disk that gave back what was written: a room that has stopped says so and
-- stays as it was. Else the reply that is kept for the caller under its number is the answer, and nothing is done; where none is kept, it is asked anew; or the kept replies
-- could not be read. `acts` tells whether an act or a load was asked, now or before, and no question.
abbrev pub AnswersCall : {S : Type 0} → Ghosts S → (List KeptAnswer → Bool → Reply → Standing S → Type 0) → Caller → Standing S → Bool → Reply → Standing S → Type 0
AnswersCall g Anew caller old acts reply new = (replies : List KeptAnswer) → HoldsBook g old replies → HasCleanDisk (state g new.tables) → MatchBool old.stopped
    ((reply ≡ refusal_reply Stopped) × (new ≡ old))
    (FailsLook g replies caller old reply new
    ⊎ ((kept_for replies caller ≡ Some (ended reply)) × (is_refused reply ≡ false) × (acts ≡ true) × StaysSo g replies old new)
    ⊎ ((kept_for replies caller ≡ None) × Anew replies acts reply new))

-- an act or a question
abbrev pub AnswersActCall : {S : Type 0} → Ghosts S → Caller → Option ℕ → List ℕ → Standing S → Bool → Reply → Standing S → Type 0
AnswersActCall g caller moment text old acts reply new = AnswersCall g (λ replies acts reply new. ActsAnew g moment text replies caller old acts reply new) caller old acts reply new

-- a stack or a procedure
abbrev pub AnswersLoadCall : {S : Type 0} → Ghosts S → Caller → LoadKind → Option ℕ → List ℕ → List ℕ → Standing S → Bool → Reply → Standing S → Type 0
AnswersLoadCall g caller kind moment name csv old acts reply new = AnswersCall g (λ replies acts reply new. LoadsAnew g kind moment name csv replies caller old acts reply new) caller old acts reply new

-- What was called made a reply of this kind, and the answer says it; as many rows of the history stood once the room was opened. So much is true of it, whatever the
-- tables hold.
pub record IsCalled {S : Type 0} (Makes : Bool → Reply → Standing S → Type 0) (Tells : Reply → Standing S → Type 0) (old : Standing S) (called : Called) (new : Standing S) : Type 0 where
  pub reply : Reply
  pub made : Makes called.acts reply new
  pub says : Says reply called.answer
  pub opened : new.opened ≡ old.opened
  pub tells : Tells reply new

-- ---- when a room stops

-- what an answer refuses with, as the outcome of a call
abbrev pub outcome_of : Option Refusal → Result ⊤ Refusal
outcome_of None = Ok tt
outcome_of (Some refusal) = Err refusal

abbrev pub outcome_in : Result Answer Untold → Result ⊤ Refusal
outcome_in (Ok answer) = outcome_of answer.refusal
outcome_in (Err untold) = outcome_of untold.refusal

-- Whatever the tables hold: an act or a load that is called stops a room exactly with an answer 31, and is told 32 only where it has stopped.
abbrev pub StopsCalled : {S : Type 0} → Standing S → Called → Standing S → Type 0
StopsCalled old called new = called.acts ≡ true → Stops old (outcome_in called.answer) new

-- What every call keeps to, whatever the tables hold: it stops the room with an answer 31 alone; the promise is kept; the book is one that a
-- room keeps; and of a disk that gives back what was written now, so it was before.
pub record KeepsCall {S : Type 0} (g : Ghosts S) (old : Standing S) (called : Called) (new : Standing S) : Type 0 where
  pub stops : StopsCalled old called new
  pub promise : KeepsPromise either (desk_in new)
  pub kept : IsKept new.desk.book
  pub clean : HasCleanDisk (state g new.tables) → HasCleanDisk (state g old.tables)
