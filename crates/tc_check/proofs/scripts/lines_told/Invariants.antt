use Rattle.tc_check.specs.Scripts.{script_lines}
use Rattle.tc_check.proofs.ScriptLemmas.{ToldSoFar}
use Rattle.tc_check.proofs.scripts.lines_told.Given as goal

-- what is told of the lines so far was found
abbrev pub invariant-loop-line : goal.invariant-loop-line
invariant-loop-line g l = ToldSoFar l.number l.line-iterator (script_lines l.fn.text) (g.T.Texts.seen l.fn.texts) (g.T.Texts.seen l.texts) l.findings
