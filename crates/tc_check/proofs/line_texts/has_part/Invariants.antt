use Rattle.std.proofs.Common.{◌≡◌, length, nat_eq}
use Rattle.std.specs.List.{list_any}
use Rattle.std.specs.Cmp.Lexicographic.{pointwise}
use Rattle.tc_types.specs.Words.{words, words_left}
use Rattle.tc_check.proofs.line_texts.has_part.Given as goal

-- it hangs on the words that are left
abbrev pub invariant-loop-left : goal.invariant-loop-left
invariant-loop-left l = list_any (pointwise nat_eq l.fn.word) (words 59 l.fn.list) ≡ list_any (pointwise nat_eq l.fn.word) (words_left 59 l.left)

abbrev pub decreases-loop-left : goal.decreases-loop-left
decreases-loop-left l = length (words_left 59 l.left)
