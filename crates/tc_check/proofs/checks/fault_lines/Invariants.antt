use Rattle.std.proofs.Common.{drop, map}
use Rattle.tc_check.specs.Told.{fault_line}
use Rattle.tc_check.proofs.FindingLemmas.{ShowsFront}
use Rattle.tc_check.proofs.checks.fault_lines.Given as goal

-- the lines of the faults so far were found
abbrev pub invariant-loop-fault : goal.invariant-loop-fault
invariant-loop-fault l =
    ShowsFront (map (fault_line l.fn.sheet.kind l.fn.sheet.text.now) l.fn.faults) (map (fault_line l.fn.sheet.kind l.fn.sheet.text.now) (drop l.fault-index l.fn.faults)) l.findings
