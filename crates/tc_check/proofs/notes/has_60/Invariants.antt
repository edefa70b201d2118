use Rattle.std.proofs.Common.{◌≡◌, length}
use Rattle.std.specs.List.{list_any}
use Rattle.tc_types.specs.Words.{words, words_left}
use Rattle.tc_check.specs.Notes.{writes_60}
use Rattle.tc_check.proofs.notes.has_60.Given as goal

-- it hangs on the words that are left
abbrev pub invariant-loop-left : goal.invariant-loop-left
invariant-loop-left l = list_any writes_60 (words 59 l.fn.list) ≡ list_any writes_60 (words_left 59 l.left)

abbrev pub decreases-loop-left : goal.decreases-loop-left
decreases-loop-left l = length (words_left 59 l.left)
