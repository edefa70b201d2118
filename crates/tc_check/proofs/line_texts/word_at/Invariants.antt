use Rattle.std.proofs.Common.{◌≡◌, ◌-◌, [], get_or}
use Rattle.tc_types.specs.Words.{words_left}
use Rattle.tc_script.specs.Faults.{line_words}
use Rattle.tc_check.proofs.line_texts.word_at.Given as goal

-- it is one of the words that are left
abbrev pub invariant-loop-skipped : goal.invariant-loop-skipped
invariant-loop-skipped l = get_or (line_words l.fn.line) l.fn.place [] ≡ get_or (words_left 32 l.left) (l.fn.place - l._skipped) []
