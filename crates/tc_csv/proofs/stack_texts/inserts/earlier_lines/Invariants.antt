use Rattle.std.proofs.Common.{◌-◌}
use Rattle.tc_types.specs.Words.{words_left}
use Rattle.tc_csv.proofs.InsertLemmas.{LinesRead}
use Rattle.tc_csv.proofs.stack_texts.inserts.earlier_lines.Given as goal

abbrev pub invariant-loop-left : goal.invariant-loop-left
invariant-loop-left l = LinesRead l.fn.line l.fn.field (words_left 59 l.left) l.count l.places

abbrev pub decreases-loop-left : goal.decreases-loop-left
decreases-loop-left l = 8 - l.count
