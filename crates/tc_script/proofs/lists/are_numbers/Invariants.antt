use Rattle.std.proofs.Common.{length}
use Rattle.std.specs.Prelude.{◌↔◌}
use Rattle.std.specs.List.{AllByRecursion}
use Rattle.std.specs.Fmt.{decimal}
use Rattle.tc_types.specs.Numbers.{IsNumber}
use Rattle.tc_types.specs.Words.{words_left}
use Rattle.tc_script.specs.Fits.{AreNumbers, Spells}
use Rattle.tc_script.proofs.lists.are_numbers.Given as goal

-- it hangs on the words that are left
abbrev pub invariant-loop-left : goal.invariant-loop-left
invariant-loop-left l = AreNumbers l.fn.word ↔ AllByRecursion (Spells decimal IsNumber) (words_left 59 l.left)

abbrev pub decreases-loop-left : goal.decreases-loop-left
decreases-loop-left l = length (words_left 59 l.left)
