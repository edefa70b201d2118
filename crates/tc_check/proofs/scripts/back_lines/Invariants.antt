use Rattle.tc_check.specs.Scripts.{script_lines}
use Rattle.tc_check.proofs.ScriptLemmas.{BackSoFar}
use Rattle.tc_check.proofs.scripts.back_lines.Given as goal

-- what is told of the lines so far was found
abbrev pub invariant-loop-line : goal.invariant-loop-line
invariant-loop-line l = BackSoFar l.number l.latest l.line-iterator (script_lines l.fn.text) l.findings
