-- The reading of a script, and the counts of the reader and writer of a run.
use Rattle.std.specs.Prelude.{◌≡◌, ◌≢◌, ◌≤◌, ◌<◌, ◌*◌, ◌⊎◌, ℕ, IfErr, IfOk, Result, Ok, Err, Option, List, length}
use Rattle.std.specs.Io.KnownBytes.{Consumes}
use Rattle.tc_types.specs.declared.counted.Counts.{Counts}
use Rattle.tc_types.specs.Counts.{no_counts}
use Rattle.tc_front.specs.Write.{one_fault}
use Rattle.sqlite.specs.declared.error.Error.{Error}
use Rattle.sqlite.specs.declared.error.Error.TheVariants.{SqliteFailure}
use Rattle.sqlite.specs.declared.error.ErrorCode.TheVariants.{OutOfMemory}
use Rattle.tc_closed.specs.declared.scripts.ScriptFault.{ScriptFault}
use Rattle.tc_closed.specs.declared.scripts.ScriptFault.TheVariants.{Script, Output, Memory, Tables, Config, Path}
use Rattle.tc_types.specs.declared.refusals.Refusal.{Refusal}
use Rattle.tc_types.specs.declared.refusals.Refusal.TheVariants as refusal

-- more was read than a script may have, by reads that gave 4,096 bytes at most
pub record IsTooLong (counts : Counts) (old new : Option (List ℕ)) : Type 0 where
  pub text : List ℕ
  pub taken : Consumes old new text
  pub long : 1048576 < length text
  pub reads : length text ≤ 4096 * counts.reads

-- Why a script could not be read: its reader failed, or was read 100,000 times, or gave too much.
abbrev pub IsUnreadable : Counts → Option (List ℕ) → Option (List ℕ) → Type 0
IsUnreadable counts old new = (counts.faults ≡ 1) ⊎ ((counts.reads ≡ 100000) ⊎ IsTooLong counts old new)

-- the script was not read, or memory was refused to it
abbrev pub IsUnread : ScriptFault → Type 0
IsUnread fault = (fault ≡ Script) ⊎ (fault ≡ Memory)

-- The counts of the writer: one write failed where the answer is Output, and none where it is another.
abbrev pub written_counts : {X : Type 0} → Result X ScriptFault → Counts
written_counts (Ok answer) = no_counts
written_counts (Err Script) = no_counts
written_counts (Err Output) = one_fault
written_counts (Err Memory) = no_counts
written_counts (Err Tables) = no_counts
written_counts (Err Config) = no_counts
written_counts (Err Path) = no_counts

-- How a call that writes ends: this comes with its answer; or with its fault, which is none of the reading of a script. By the counts of a writer that
-- counted nothing before, one write failed where the fault is Output, and else none.
pub record Ends {X : Type 0} (Done : X → Type 0) (Stopped : ScriptFault → Type 0) (old new : Counts) (result : Result X ScriptFault) : Type 0 where
  pub done : IfOk result Done
  pub stopped : IfErr result Stopped
  pub fault : IfErr result (λ fault. fault ≢ Script)
  pub counted : old ≡ no_counts → new ≡ written_counts result

-- what a fault of the database is told as: want of memory as such, any other as that of the tables
abbrev pub fault_of_database : Error → ScriptFault
fault_of_database (SqliteFailure OutOfMemory) = Memory
fault_of_database error = Tables

-- why a run ends where its room could not be opened
abbrev pub fault_of : Refusal → ScriptFault
fault_of refusal.BadDirective = Config
fault_of refusal.Memory = Memory
fault_of _ = Tables
