-- The run of a script: what is written for the lines that were read.
use Rattle.std.specs.Prelude.{◌≡◌, ◌⊎◌, ℕ, Bool, true, false, if◌then◌else◌, MatchBool, Option, List, [], ◌∷◌, ◌++◌, codes, length}
use Rattle.std.specs.List.{list_any}
use Rattle.std.specs.Io.KnownBytes.{Appends}
use Rattle.sqlite_trees.specs.declared.memory.MemStore.{MemStore}
use Rattle.sqlite_trees.specs.declared.store.Store.{Ghosts}
use Rattle.sqlite.specs.Held.{state}
use Rattle.sqlite.specs.State.{HasCleanDisk}
use Rattle.sqlite.specs.Steps.{over_memory}
use Rattle.tc_types.specs.declared.acts.Act.TheVariants as act
use Rattle.tc_types.specs.declared.acts.Line.{Line}
use Rattle.tc_types.specs.declared.acts.Query.TheVariants as query
use Rattle.tc_types.specs.declared.refusals.Refusal.{Refusal}
use Rattle.tc_types.specs.ActGrammar.{SpellsLine}
use Rattle.tc_types.specs.History.{counts_of, entered}
use Rattle.tc_types.specs.Loads.{LoadLine}
use Rattle.tc_types.specs.Lines.{places_line}
use Rattle.tc_book.specs.Book.{Book}
use Rattle.tc_book.specs.declared.stamps.Stamp.{Stamp}
use Rattle.tc_world.specs.EitherLink.{either}
use Rattle.tc_desk.specs.Promise.{KeepsPromise}
use Rattle.tc_desk.specs.Loads.{Loading}
use Rattle.tc_desk.specs.Machine.{stamp_of}
use Rattle.tc_desk.specs.Replies.{Reply}
use Rattle.tc_world.specs.declared.configs.Config as configs
use Rattle.tc_store.specs.Ledgers.{KeptAnswer}
use Rattle.tc_room.specs.Answers.{AnswersLine, AsksPlaces, RefusesWith}
use Rattle.tc_room.specs.Joined.{HoldsBook, IsKept, Standing, desk_in}
use Rattle.tc_room.specs.Loads.{FailsLoad, RoomLoad, SpellsLoading, loader_of}
use Rattle.tc_room.specs.Replies.{ended, is_refused}
use Rattle.tc_room.specs.Room.{FailsStore, IsJustOpened, LeavesDesk}
use Rattle.tc_room.specs.Truth.{LeavesLink}
use Rattle.tc_check.specs.Scripts.{IsLoadLine, is_skipped, script_lines}
use Rattle.tc_closed.specs.Files.{FileAnswer, Gives, file_at}

-- ---- what is written

-- what is written where a line is answered so: with an echo the line stands before it, behind `> `
abbrev pub exchange : Bool → List ℕ → List ℕ → List ℕ
exchange false line text = text
exchange true line text = codes "> " ++ line ++ 10 ∷ text

-- those of these lines that are answered
abbrev pub answered : List (List ℕ) → List (List ℕ)
answered [] = []
answered (line ∷ lines) = if is_skipped line then answered lines else line ∷ answered lines

-- what is written where each of these lines is answered so
abbrev pub exchanges : Bool → List (List ℕ) → List Reply → List ℕ
exchanges echo [] replies = []
exchanges echo (line ∷ lines) [] = []
exchanges echo (line ∷ lines) (reply ∷ replies) = exchange echo line (ended reply) ++ exchanges echo lines replies

-- in a room over any store
module _ {S : Type 0} (g : Ghosts S) where
  -- the text that was found at its path is loaded, which leaves the link, the spacecraft and the mirror
  abbrev pub LoadsFile : Standing S → List ℕ → List FileAnswer → Reply → Standing S → Type 0
  LoadsFile old line files reply new =
      (load : LoadLine) × (text : List ℕ) × IsLoadLine line load × (files ≡ file_at load.path text ∷ []) × RoomLoad g old (loader_of load) load.kind load.name text reply new × LeavesLink old new

  -- a line that loads nothing asks for no file, and is answered by itself
  abbrev pub AnswersScriptLine : Standing S → List ℕ → List FileAnswer → Reply → Standing S → Type 0
  AnswersScriptLine old line files reply new =
      LoadsFile old line files reply new
      ⊎ ((files ≡ []) × ((load : LoadLine) → ¬ IsLoadLine line load) × AnswersLine g old line reply new)

  -- a line that is skipped is not answered
  abbrev pub TakesLine : Standing S → List ℕ → List FileAnswer → List Reply → Standing S → Type 0
  TakesLine old line files replies new = MatchBool (is_skipped line)
      ((files ≡ []) × (replies ≡ []) × (new ≡ old))
      ((reply : Reply) × (replies ≡ reply ∷ []) × AnswersScriptLine old line files reply new)

  -- each line is taken in turn, from where the line before left the room, with the next of the files
  abbrev pub TakesLines : Standing S → List (List ℕ) → List FileAnswer → List Reply → Standing S → Type 0
  TakesLines old [] files replies new = (files ≡ []) × (replies ≡ []) × (new ≡ old)
  TakesLines old (line ∷ lines) files replies new =
      (now : List Reply) × (mid : Standing S) × (later : List Reply) × (first : List FileAnswer) × (others : List FileAnswer)
      × TakesLine old line first now mid × TakesLines mid lines others later new × (replies ≡ now ++ later) × (files ≡ first ++ others)

  -- What replies to a line that is not skipped, with these files: this text, which is that of a reply that refuses with this, if it does. As many
  -- rows stood in the history once the room was opened as before.
  pub record RepliesTo (old : Standing S) (line : List ℕ) (gave gives : Option (List FileAnswer)) (text : List ℕ) (why : Option Refusal) (new : Standing S) : Type 0 where
    pub reply : Reply
    pub files : List FileAnswer
    pub answers : AnswersScriptLine old line files reply new
    pub given : Gives gave gives files
    pub text_is : text ≡ ended reply
    pub refuses : RefusesWith reply why
    pub opened : new.opened ≡ old.opened

  -- what these lines, that were taken, came to, by what it is to be taken: their replies were written, and it is known whether one is a refusal
  pub record Came (echo : Bool) (lines : List (List ℕ)) (Takes : List FileAnswer → List Reply → Standing S → Type 0) (start : Standing S) (gave gives : Option (List FileAnswer)) (old new : Option (List ℕ)) (end : Standing S) (refused : Bool) : Type 0 where
    pub replies : List Reply
    pub files : List FileAnswer
    pub taken : Takes files replies end
    pub given : Gives gave gives files
    pub written : Appends old new (exchanges echo (answered lines) replies)
    pub refusals : refused ≡ list_any is_refused replies
    pub opened : end.opened ≡ start.opened

  -- what the question `places` came to, over a book that a room keeps
  pub record CameLast (start : Standing S) (old new : Option (List ℕ)) (after : Standing S) (refused : Bool) : Type 0 where
    pub reply : Reply
    pub asked : AsksPlaces g start reply after
    pub written : Appends old new (ended reply)
    pub refusal : refused ≡ is_refused reply
    pub kept : IsKept start.desk.book
    pub leaves : LeavesDesk g start after

  -- some first lines were taken, and these are left
  abbrev pub TakesFront : Standing S → List (List ℕ) → List FileAnswer → List Reply → Standing S → List (List ℕ) → Type 0
  TakesFront old lines files replies new left =
      (front : List (List ℕ)) × (lines ≡ front ++ left) × TakesLines old front files replies new

-- the exit status: 1 where some reply is a refusal
abbrev pub status_of : List Reply → ℕ
status_of replies = if list_any is_refused replies then 1 else 0

-- ---- a database that failed

-- over tables that keep these replies
module _ {S : Type 0} (g : Ghosts S) (stored : List KeptAnswer) where
  -- the database failed at the act or the question of a line, or at its load
  abbrev pub FailsLine : Standing S → List ℕ → Reply → Standing S → Type 0
  FailsLine old line told new =
      ((load : LoadLine) × (text : List ℕ) × (given : Loading) × IsLoadLine line load × SpellsLoading load.kind load.name text given
      × FailsLoad g stored old (loader_of load) given told new)
      ⊎ ((read : Line) × SpellsLine line read × FailsStore g stored old (stamp_of read) read.act told new)

  -- it failed at the next line, or, where none is left, at the question `places`
  abbrev pub FailsNext : Standing S → List (List ℕ) → Reply → Standing S → Type 0
  FailsNext old [] told new = (stamp : Stamp) × FailsStore g stored old stamp (act.Ask query.Places) told new
  FailsNext old (line ∷ lines) told new = FailsLine old line told new

-- The room has stopped in a run of these lines with these replies, since the database failed at one of them. What the tables hold is what that left:
-- the book as the lines before had made it, where the database is still open; and after a crash that, or the whole of what was asked. The replies that are
-- stored beside it stay.
pub record HasFailed {S : Type 0} (g : Ghosts S) (stored : List KeptAnswer) (start : Standing S) (lines : List (List ℕ)) (replies : List Reply) (after : Standing S) : Type 0 where
  pub files : List FileAnswer
  pub before : List Reply
  pub last : Standing S
  pub left : List (List ℕ)
  pub told : Reply
  pub later : List Reply
  pub taken : TakesFront g start lines files before last left
  pub fails : FailsNext g stored last left told after
  pub among : replies ≡ before ++ told ∷ later

-- ---- a run that ends

-- the last reply, where it is no refusal, tells how many requests were entered, and how many stand at each place
abbrev pub TellsBook : Book → Reply → Type 0
TellsBook book last = is_refused last ≡ false → last ≡ places_line (length (entered book.history)) (counts_of book.history) ∷ []

-- The run of the lines of a script in a room, from where it stands to where that leaves it: what it wrote is the replies to the lines, each behind its line where there is an echo, and then the
-- reply to `places`. The texts that the lines load are those that the source of files gave meanwhile.
pub record RunsLines {S : Type 0} (g : Ghosts S) (echo : Bool) (start : Standing S) (input : List ℕ) (status : ℕ) (gave gives : Option (List FileAnswer)) (old new : Option (List ℕ)) (after : Standing S) : Type 0 where
  pub files : List FileAnswer
  pub replies : List Reply
  pub end : Standing S
  pub last : Reply
  pub taken : TakesLines g start (script_lines input) files replies end
  pub asked : AsksPlaces g end last after
  -- the question leaves the desk as the lines left it
  pub leaves : LeavesDesk g end after
  pub given : Gives gave gives files
  pub written : Appends old new (exchanges echo (answered (script_lines input)) replies ++ ended last)
  pub status_is : status ≡ status_of (replies ++ last ∷ [])
  pub kept : IsKept end.desk.book
  pub opened : end.opened ≡ start.opened
  -- README's promise is kept
  pub promise : KeepsPromise either (desk_in end)
  -- the tables hold the book in the end too, and the replies that were stored, while the room goes on; else what the failure of the database left
  pub held : (stored : List KeptAnswer) → HoldsBook g start stored → HoldsBook g after stored
  pub failed : (stored : List KeptAnswer) → HoldsBook g start stored → start.stopped ≡ false → after.stopped ≡ true → HasCleanDisk (state g after.tables)
      → HasFailed g stored start (script_lines input) (replies ++ last ∷ []) after
  -- the numbers that are printed are those of the book
  pub told : (stored : List KeptAnswer) → HoldsBook g start stored → HasCleanDisk (state g after.tables) → TellsBook end.desk.book last

-- The lines of this text were run in a room that was just opened over a new database in memory.
abbrev pub IsAnswered : Bool → configs.Config → List ℕ → ℕ → Option (List FileAnswer) → Option (List FileAnswer) → Option (List ℕ) → Option (List ℕ) → Type 0
IsAnswered echo config input status gave gives old new =
    (start : Standing MemStore) × (after : Standing MemStore) × (run : RunsLines over_memory echo start input status gave gives old new after)
    × IsJustOpened over_memory config start × TellsBook run.end.desk.book run.last
