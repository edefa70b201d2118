-- Which faults come before the commit, which calls answer them, and what a fault of a read is told as.
use Rattle.std.specs.Prelude.{Bool, true, false}
use Rattle.sqlite.specs.declared.error.Error.TheVariants.{SqliteFailure}
use Rattle.sqlite.specs.declared.error.ErrorCode.TheVariants.{OutOfMemory}
use Rattle.tc_types.specs.declared.refusals.Refusal.{Refusal}
use Rattle.tc_types.specs.declared.refusals.Refusal.TheVariants as refusal
use Rattle.tc_store.specs.declared.faults.ReadFault.{ReadFault}
use Rattle.tc_store.specs.declared.faults.ReadFault.TheVariants.{Sqlite}
use Rattle.tc_store.specs.declared.faults.StoreFault.{StoreFault}
use Rattle.tc_store.specs.declared.faults.StoreFault.TheVariants.{NotEmpty, Foreign, Memory, Before, Commit}

-- only a fault at the commit leaves it open whether the batch was written
abbrev pub is_before_commit : StoreFault → Bool
is_before_commit NotEmpty = true
is_before_commit Foreign = true
is_before_commit Memory = true
is_before_commit (Before error) = true
is_before_commit (Commit error) = false

-- what a call that writes answers
abbrev pub is_of_write : StoreFault → Bool
is_of_write (Before error) = true
is_of_write (Commit error) = true
is_of_write _ = false

-- what a fault of a read is told as: want of memory as such, any other as the store's
abbrev pub told_as : ReadFault → Refusal
told_as (Sqlite (SqliteFailure OutOfMemory)) = refusal.Memory
told_as fault = refusal.Store
