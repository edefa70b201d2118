-- When a reader may answer a fault over what the desk wrote: if memory was refused, or the database did not give its rows, and never because of a row.
use Rattle.std.specs.Prelude.{◌≡◌, Bool, true, false, Result, IfErr}
use Rattle.sqlite.specs.declared.error.Error.TheVariants.{SqliteFailure, InvalidColumnIndex, InvalidColumnType, IntegralValueOutOfRange, Utf8Error}
use Rattle.sqlite.specs.declared.error.ErrorCode.TheVariants.{OutOfMemory}
use Rattle.tc_store.specs.declared.faults.ReadFault.{ReadFault}
use Rattle.tc_store.specs.declared.faults.ReadFault.TheVariants.{Sqlite, Damaged}

-- memory was refused
abbrev pub no_memory : ReadFault
no_memory = Sqlite (SqliteFailure OutOfMemory)

-- a fault of a row: it is not one that a desk writes, or a column does not show what is read there
abbrev pub is_of_row : ReadFault → Bool
is_of_row Damaged = true
is_of_row (Sqlite (InvalidColumnIndex at)) = true
is_of_row (Sqlite (InvalidColumnType at found)) = true
is_of_row (Sqlite (IntegralValueOutOfRange at)) = true
is_of_row (Sqlite (Utf8Error at)) = true
is_of_row (Sqlite error) = false

-- the values of a row are read, or memory was refused
abbrev pub OnlyMemory : {T : Type 0} → Result T ReadFault → Type 0
OnlyMemory result = IfErr result (λ fault. fault ≡ no_memory)

-- the rows of a table are read, or the fault is not one of a row
abbrev pub ReadsBack : {T : Type 0} → Result T ReadFault → Type 0
ReadsBack result = IfErr result (λ fault. is_of_row fault ≡ false)
