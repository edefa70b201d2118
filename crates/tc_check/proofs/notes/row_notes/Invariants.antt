use Rattle.std.proofs.Common.{◌+◌, drop, map}
use Rattle.csv.specs.Records.{fields_of}
use Rattle.tc_check.specs.Notes.{notes_from}
use Rattle.tc_check.proofs.FindingLemmas.{ShowsFront}
use Rattle.tc_check.proofs.notes.row_notes.Given as goal

-- what is told of the rows so far was found
abbrev pub invariant-loop-index : goal.invariant-loop-index
invariant-loop-index l =
    ShowsFront (notes_from l.fn.kind l.fn.lines 1 (map fields_of l.fn.rows)) (notes_from l.fn.kind l.fn.lines (l.index + 1) (drop l.index (map fields_of l.fn.rows))) l.findings
