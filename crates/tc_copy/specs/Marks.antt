-- The marks of a database file and its log: when two readings of them are of one state.
use Rattle.std.specs.Prelude.{◌≡◌, ◌⊎◌, ℕ, ◌==◌, if◌then◌else◌, List, Option, Some, None, slice_index}
use Rattle.tc_copy.specs.declared.marks.FileStamp.{FileStamp}
use Rattle.tc_copy.specs.declared.marks.LogMark.{LogMark}
use Rattle.tc_copy.specs.declared.marks.Marks.{Marks}
use Rattle.tc_copy.specs.Pairs.{IsPair}

-- two stamps are of one file
abbrev pub IsSameFile : FileStamp → FileStamp → Type 0
IsSameFile one other = (one.device ≡ other.device) × (one.inode ≡ other.inode)

-- The head of a log stands: its first byte is that of SQLite's magic number, which is taken away before a log is emptied, and comes back last.
abbrev pub Stands : LogMark → Type 0
Stands log = slice_index log.head 0 ≡ 55

-- a log that stands under the head that it had
abbrev pub IsSameLog : Option LogMark → Option LogMark → Type 0
IsSameLog (Some one) (Some other) = IsSameFile one.stamp other.stamp × (one.head ≡ other.head) × Stands other
IsSameLog one other = ⊥

-- The two files belong together, and the log stands under one head; or the marks are the same in all that they tell, the times of both files too.
abbrev pub IsOneState : Marks → Marks → Type 0
IsOneState before after = IsPair after × ((before ≡ after) ⊎ (IsSameFile before.file after.file × IsSameLog before.log after.log))

-- the head under which a log stands, where it does
abbrev pub head_of : Option LogMark → Option (List ℕ)
head_of None = None
head_of (Some log) = if slice_index log.head 0 == 55 then Some log.head else None
