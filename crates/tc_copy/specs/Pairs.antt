-- When a database file and what stands beside it are one desk's two files.
use Rattle.std.specs.Prelude.{◌≡◌, Bool, false, ⊤, Option, Some, None}
use Rattle.tc_copy.specs.declared.marks.LogMark.{LogMark}
use Rattle.tc_copy.specs.declared.marks.Marks.{Marks}

-- a log that is there has one name
abbrev pub HasOneName : Option LogMark → Type 0
HasOneName None = ⊤
HasOneName (Some log) = log.stamp.names ≡ 1

-- a log that is there and that a program holds
abbrev pub is_log_held : Option LogMark → Bool
is_log_held None = false
is_log_held (Some log) = log.is_held

-- Each of the two files has one name: the log of a database file with a second name may stand beside that.
abbrev pub HaveOneName : Marks → Type 0
HaveOneName marks = (marks.file.names ≡ 1) × HasOneName marks.log

-- A program that has a desk open holds both of its files. So where one is held and the other is not, the two are not of one desk.
abbrev pub AreHeldAlike : Marks → Type 0
AreHeldAlike marks = marks.is_held ≡ is_log_held marks.log

abbrev pub IsPair : Marks → Type 0
IsPair marks = HaveOneName marks × AreHeldAlike marks
