-- What is answered in a room.
use Rattle.std.specs.Prelude.{◌≡◌, ◌≢◌, ◌≤◌, ◌↔◌, ◌⊎◌, ℕ, false, List, length, Option, Some, None, Result, Ok, Err}
use Rattle.std.specs.String.{string_bytes}
use Rattle.sqlite_trees.specs.declared.store.Store.{Ghosts}
use Rattle.tc_types.specs.declared.refusals.Refusal.{Refusal}
use Rattle.tc_types.specs.declared.refusals.Refusal.TheVariants.{BadText, TooLong}
use Rattle.tc_types.specs.declared.acts.Act.TheVariants as act
use Rattle.tc_types.specs.declared.acts.Query.{Query}
use Rattle.tc_types.specs.declared.acts.Query.TheVariants as query
use Rattle.tc_types.specs.declared.acts.Line.{Line}
use Rattle.tc_types.specs.ActGrammar.{HasLongAct, SpellsLine, act_text}
use Rattle.tc_book.specs.declared.stamps.Stamp.{Stamp}
use Rattle.tc_world.specs.EitherLink.{either}
use Rattle.tc_desk.specs.Promise.{KeepsPromise}
use Rattle.tc_desk.specs.Machine.{stamp_of}
use Rattle.tc_desk.specs.Replies.{Reply, refusal_reply}
use Rattle.tc_room.specs.declared.answers.Answer.{Answer}
use Rattle.tc_types.specs.declared.refusals.Untold.{Untold}
use Rattle.tc_room.specs.Joined.{Standing, desk_in}
use Rattle.tc_room.specs.Replies.{AreLines, ended, is_refused}
use Rattle.tc_room.specs.Room.{RoomStep}
use Rattle.tc_room.specs.Truth.{TellsTrue}

-- A line that is refused as it is read: with TooLong exactly where its act is too long, and else with BadText, where no
-- line with an act of 200 bytes or fewer is spelled so.
pub record IsUnread (line : List ℕ) (refusal : Refusal) : Type 0 where
  pub too_long : (refusal ≡ TooLong) ↔ HasLongAct line
  pub others : refusal ≢ TooLong → refusal ≡ BadText
  pub unspelled : (read : Line) → SpellsLine line read → ¬ (length (act_text read.act) ≤ 200)

-- A line is answered: one that cannot be read is refused, also where the room has stopped; another makes a step, and what is told of its act is true.
abbrev pub AnswersLine : {S : Type 0} → Ghosts S → Standing S → List ℕ → Reply → Standing S → Type 0
AnswersLine g old line reply new =
    ((refusal : Refusal) × IsUnread line refusal × (reply ≡ refusal_reply refusal) × (new ≡ old))
    ⊎ ((read : Line) × SpellsLine line read × ¬ HasLongAct line × RoomStep g old (stamp_of read) read.act reply new
    × TellsTrue read.act reply old new)

-- a question, whoever asks
abbrev pub Asks : {S : Type 0} → Ghosts S → Standing S → Query → Reply → Standing S → Type 0
Asks g old asked reply new = (stamp : Stamp) → RoomStep g old stamp (act.Ask asked) reply new

-- the question `places`
abbrev pub AsksPlaces : {S : Type 0} → Ghosts S → Standing S → Reply → Standing S → Type 0
AsksPlaces g old reply new = Asks g old query.Places reply new

-- what a reply refuses with, if it is a refusal
abbrev pub RefusesWith : Reply → Option Refusal → Type 0
RefusesWith reply None = is_refused reply ≡ false
RefusesWith reply (Some refusal) = reply ≡ refusal_reply refusal

-- the text of a reply, of which no line has an LF in it, or that there was no memory for it, and in either case what it refuses with
abbrev pub Says : Reply → Result Answer Untold → Type 0
Says reply (Ok answer) = (string_bytes answer.text ≡ ended reply) × AreLines reply × RefusesWith reply answer.refusal
Says reply (Err untold) = RefusesWith reply untold.refusal

-- What came to a room made a reply of this kind, and the answer says it; as many rows of the history stood once the room was opened.
pub record Replied {S : Type 0} (Makes : Reply → Standing S → Type 0) (old : Standing S) (result : Result Answer Untold) (new : Standing S) : Type 0 where
  pub reply : Reply
  pub made : Makes reply new
  pub says : Says reply result
  pub opened : new.opened ≡ old.opened

-- The same, and the promise is kept.
pub record Answered {S : Type 0} (Makes : Reply → Standing S → Type 0) (old : Standing S) (result : Result Answer Untold) (new : Standing S) : Type 0 where
  pub replied : Replied Makes old result new
  pub promise : KeepsPromise either (desk_in new)
