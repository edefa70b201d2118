use Rattle.std.proofs.Common.{length, ◌-◌}
use Rattle.tc_types.specs.Words.{words_left}
use Rattle.tc_csv.proofs.InsertLemmas.{RidesRead}
use Rattle.tc_csv.proofs.stack_texts.inserts.instants.Given as goal

abbrev pub invariant-loop-count : goal.invariant-loop-count
invariant-loop-count l = RidesRead l.fn.lines l.fn.field (words_left 59 l.left) l.count l.places

abbrev pub decreases-loop-count : goal.decreases-loop-count
decreases-loop-count l = length l.lines - l.count
