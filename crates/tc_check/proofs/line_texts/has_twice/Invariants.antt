use Rattle.std.proofs.Common.{◌≡◌, length}
use Rattle.tc_types.specs.Words.{words, words_left}
use Rattle.tc_check.specs.LineTexts.{has_twice}
use Rattle.tc_check.proofs.line_texts.has_twice.Given as goal

-- it hangs on the words that are left
abbrev pub invariant-loop-left : goal.invariant-loop-left
invariant-loop-left l = has_twice (words 59 l.fn.list) ≡ has_twice (words_left 59 l.left)

abbrev pub decreases-loop-left : goal.decreases-loop-left
decreases-loop-left l = length (words_left 59 l.left)
