use Rattle.std.proofs.Common.{◌≡◌, drop}
use Rattle.csv.specs.declared.parser.State.TheVariants.{StartRecord}
use Rattle.tc_check.specs.FileLines.{ends_quoted_from, state_of}
use Rattle.tc_check.proofs.file_lines.ends_quoted.Given as goal

-- it hangs on the bytes left
abbrev pub invariant-loop-byte : goal.invariant-loop-byte
invariant-loop-byte l = ends_quoted_from StartRecord l.bytes ≡ ends_quoted_from (state_of l.within) (drop l.byte-index l.bytes)
