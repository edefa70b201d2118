use Rattle.tc_front.proofs.arriving.Arriving.new.Goals as goal

pub invariant_of-result : goal.invariant_of-result
invariant_of-result c = c.new-2.ensures _
