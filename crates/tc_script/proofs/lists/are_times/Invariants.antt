use Rattle.std.proofs.Common.{length}
use Rattle.std.specs.Prelude.{◌↔◌}
use Rattle.std.specs.List.{AllByRecursion}
use Rattle.std.specs.Fmt.{decimal}
use Rattle.tc_types.specs.Numbers.{IsMoment}
use Rattle.tc_types.specs.Words.{words_left}
use Rattle.tc_script.specs.Fits.{AreTimes, Spells}
use Rattle.tc_script.proofs.lists.are_times.Given as goal

-- it hangs on the words that are left
abbrev pub invariant-loop-left : goal.invariant-loop-left
invariant-loop-left l = AreTimes l.fn.word ↔ AllByRecursion (Spells decimal IsMoment) (words_left 59 l.left)

abbrev pub decreases-loop-left : goal.decreases-loop-left
decreases-loop-left l = length (words_left 59 l.left)
