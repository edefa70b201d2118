use Rattle.std.proofs.Common.{◌≡◌, ◌+◌, arith, length}
use Rattle.tc_types.specs.Words.{words_left}
use Rattle.tc_script.specs.Faults.{line_words}
use Rattle.tc_script.proofs.WrongLemmas.{few_words}
use Rattle.tc_script.proofs.faults.word_fault.Goals as goal

pub overflow_add-which : goal.overflow_add-which
overflow_add-which c =
    let count : c.loop-left.which + length (words_left 32 c.loop-left.left) ≡ 1 + length (line_words c.args.line.now) = c.loop-left.invariant.count in
    omega (arith, few_words c.args.line.now, count, c.well_formed.0.1)
