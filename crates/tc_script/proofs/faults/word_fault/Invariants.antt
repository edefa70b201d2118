use Rattle.std.proofs.Common.{length}
use Rattle.tc_types.specs.Words.{words_left}
use Rattle.tc_script.specs.Faults.{line_words}
use Rattle.tc_script.proofs.WrongLemmas.{StandAt}
use Rattle.tc_script.proofs.faults.word_fault.Given as goal

-- the words before stand where they are taken
abbrev pub invariant-loop-left : goal.invariant-loop-left
invariant-loop-left l = StandAt l.which l.at (words_left 32 l.left) (line_words l.fn.line)

abbrev pub decreases-loop-left : goal.decreases-loop-left
decreases-loop-left l = length (words_left 32 l.left)
