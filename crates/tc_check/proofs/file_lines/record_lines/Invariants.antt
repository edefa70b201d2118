use Rattle.std.proofs.Common.{◌≡◌, ◌≤◌, ◌+◌, ◌++◌, drop}
use Rattle.csv.specs.declared.parser.State.TheVariants.{StartRecord}
use Rattle.tc_check.specs.FileLines.{lines_from, state_of}
use Rattle.tc_check.proofs.file_lines.record_lines.Given as goal

-- what was found so far, and what is in the bytes left
abbrev pub invariant-loop-byte : goal.invariant-loop-byte
invariant-loop-byte l = record {
  found : lines_from StartRecord 1 l.bytes ≡ l.lines.items ++ lines_from (state_of l.within) l.line (drop l.byte-index l.bytes);
  few : l.line ≤ l.byte-index + 1;
}
