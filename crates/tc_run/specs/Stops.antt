-- The run of a script that stops: with which fault, what is written then, and how it leaves the room.
use Rattle.std.specs.Prelude.{◌≡◌, ◌⊎◌, ◌↔◌, ℕ, Bool, true, false, Option, List, [], ◌∷◌, ◌++◌}
use Rattle.std.specs.Io.KnownBytes.{Appends}
use Rattle.sqlite_trees.specs.declared.memory.MemStore.{MemStore}
use Rattle.sqlite_trees.specs.declared.store.Store.{Ghosts}
use Rattle.sqlite.specs.Held.{state}
use Rattle.sqlite.specs.State.{HasCleanDisk}
use Rattle.sqlite.specs.Steps.{over_memory}
use Rattle.tc_types.specs.Loads.{LoadLine}
use Rattle.tc_desk.specs.Promise.{KeepsPromise}
use Rattle.tc_desk.specs.Replies.{Reply}
use Rattle.tc_world.specs.Config.{IsConfig}
use Rattle.tc_world.specs.EitherLink.{either}
pub use Rattle.tc_front.specs.Write.{IsCutShort}
use Rattle.tc_world.specs.declared.configs.Config as configs
use Rattle.tc_store.specs.Ledgers.{KeptAnswer}
use Rattle.tc_room.specs.Answers.{AsksPlaces}
use Rattle.tc_room.specs.Joined.{HoldsBook, Standing, desk_in}
use Rattle.tc_room.specs.Replies.{ended}
use Rattle.tc_room.specs.Room.{IsJustOpened}
use Rattle.tc_closed.specs.Files.{FileAnswer, Gives, none_at}
use Rattle.tc_check.specs.Scripts.{IsLoadLine, is_skipped}
use Rattle.tc_run.specs.Run.{AnswersScriptLine, HasFailed, TakesFront, answered, exchange, exchanges}
use Rattle.tc_closed.specs.declared.paths.PathFault.{PathFault}
use Rattle.tc_closed.specs.declared.paths.PathFault.TheVariants as path_fault
use Rattle.tc_closed.specs.declared.scripts.ScriptFault.{ScriptFault}
use Rattle.tc_closed.specs.declared.scripts.ScriptFault.TheVariants.{Output, Memory, Tables, Config, Path}

-- ---- at a line

-- a line loads what is at a path, and this is why there was no text
abbrev pub MissesFile : PathFault → List ℕ → List FileAnswer → Type 0
MissesFile why line files = (load : LoadLine) × IsLoadLine line load × (files ≡ none_at load.path why ∷ [])

module _ {S : Type 0} (g : Ghosts S) where
  -- Why there is no text of the reply to a line, and how that leaves the room. `Memory`: the line was answered, and the text of its reply found
  -- no memory; or memory was refused to the text at its path, and nothing happened. `Path`: its path gave no text, and nothing happened.
  abbrev pub IsUnanswered : ScriptFault → Standing S → List ℕ → List FileAnswer → Standing S → Type 0
  IsUnanswered Memory old line files after =
      ((reply : Reply) × AnswersScriptLine g old line files reply after) ⊎ (MissesFile path_fault.Memory line files × (after ≡ old))
  IsUnanswered Path old line files after = MissesFile path_fault.Unreadable line files × (after ≡ old)
  IsUnanswered other old line files after = ⊥

  -- what comes next is answered: the next line, or, where none is left, the question `places`
  abbrev pub AnswersNext : Standing S → List (List ℕ) → List FileAnswer → Reply → Standing S → Type 0
  AnswersNext old [] files reply after = (files ≡ []) × AsksPlaces g old reply after
  AnswersNext old (line ∷ lines) files reply after = (is_skipped line ≡ false) × AnswersScriptLine g old line files reply after

  -- why there is no text of that reply
  abbrev pub UnansweredNext : ScriptFault → Standing S → List (List ℕ) → List FileAnswer → Standing S → Type 0
  UnansweredNext fault old [] files after = (fault ≡ Memory) × (reply : Reply) × AnswersNext old [] files reply after
  UnansweredNext fault old (line ∷ lines) files after = (is_skipped line ≡ false) × IsUnanswered fault old line files after

  -- what is written where what comes next is answered so
  abbrev pub next_exchange : Bool → List (List ℕ) → Reply → List ℕ
  next_exchange echo [] reply = ended reply
  next_exchange echo (line ∷ lines) reply = exchange echo line (ended reply)

  -- What a fault leaves of the next reply, and of the line before it: a front, where a write failed; and nothing, where there is no text of it. No other fault ends a
  -- run behind its opening.
  abbrev pub LeavesPart : Bool → ScriptFault → Standing S → List (List ℕ) → List FileAnswer → List ℕ → Standing S → Type 0
  LeavesPart echo Output old left files part after = (next : Reply) × AnswersNext old left files next after × IsCutShort (next_exchange echo left next) part
  LeavesPart echo fault old left files part after = (part ≡ []) × UnansweredNext fault old left files after

  -- what is given and written where it stops at what comes next
  abbrev pub StopsNext : Bool → ScriptFault → Standing S → List (List ℕ) → Option (List FileAnswer) → Option (List FileAnswer) → Option (List ℕ) → Option (List ℕ) → Standing S → Type 0
  StopsNext echo fault reached left gave gives old new after =
      (files : List FileAnswer) × (part : List ℕ) × LeavesPart echo fault reached left files part after × Gives gave gives files × Appends old new part

  -- why there is no text of the reply to a line, with what was given meanwhile
  abbrev pub Unanswered : Standing S → List ℕ → Option (List FileAnswer) → Option (List FileAnswer) → Standing S → ScriptFault → Type 0
  Unanswered old line gave gives new fault = (files : List FileAnswer) × IsUnanswered fault old line files new × Gives gave gives files

-- The run of these lines stopped after some of them, which left the room so: their replies are written, each behind its line where there is an echo, and of the next what the fault leaves.
pub record StopsAfter {S : Type 0} (g : Ghosts S) (echo : Bool) (fault : ScriptFault) (start : Standing S) (lines : List (List ℕ)) (gave gives : Option (List FileAnswer)) (old new : Option (List ℕ)) (after : Standing S) : Type 0 where
  pub files : List FileAnswer
  pub replies : List Reply
  pub reached : Standing S
  pub left : List (List ℕ)
  pub more : List FileAnswer
  pub part : List ℕ
  pub taken : TakesFront g start lines files replies reached left
  pub leaves : LeavesPart g echo fault reached left more part after
  pub given : Gives gave gives (files ++ more)
  pub written : Appends old new (exchanges echo (answered taken.0) replies ++ part)
  -- the tables hold the book of the room, and the replies that were stored, while it goes on; else what the failure of the database left
  pub held : (stored : List KeptAnswer) → HoldsBook g start stored → HoldsBook g after stored
  pub failed : (stored : List KeptAnswer) → HoldsBook g start stored → start.stopped ≡ false → after.stopped ≡ true → HasCleanDisk (state g after.tables)
      → (told : List Reply) × HasFailed g stored start lines (replies ++ told) after

-- ---- before the first line

-- nothing was written, and no file was asked for
abbrev pub IsUntouched : Option (List FileAnswer) → Option (List FileAnswer) → Option (List ℕ) → Option (List ℕ) → Type 0
IsUntouched gave gives old new = Gives gave gives [] × Appends old new []

-- the desk was not opened: with `Config` exactly where there is no such desk, else for want of memory, or of its tables
pub record IsUnopened (config : configs.Config) (fault : ScriptFault) : Type 0 where
  pub unfit : (fault ≡ Config) ↔ (¬ IsConfig config)
  pub kind : (fault ≡ Config) ⊎ (fault ≡ Memory) ⊎ (fault ≡ Tables)

-- ---- in memory

-- The run of these lines stopped before the first, or after some of them, in a room that was just opened over a new database in memory; and README's promise is
-- kept where it stopped.
abbrev pub Stops : Bool → configs.Config → ScriptFault → List (List ℕ) → Option (List FileAnswer) → Option (List FileAnswer) → Option (List ℕ) → Option (List ℕ) → Type 0
Stops echo config fault lines gave gives old new =
    (IsUnopened config fault × IsUntouched gave gives old new)
    ⊎ ((start : Standing MemStore) × (after : Standing MemStore) × IsJustOpened over_memory config start
    × StopsAfter over_memory echo fault start lines gave gives old new after × KeepsPromise either (desk_in after))
