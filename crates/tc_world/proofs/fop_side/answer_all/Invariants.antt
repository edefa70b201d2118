use Rattle.std.proofs.Common.{◌≡◌, ◌+◌, ◌++◌, map, take, vec_len, vec_capacity}
use Rattle.tc_world.specs.declared.events.LinkIndication.TheVariants.{Fop}
use Rattle.tc_world.proofs.fop_side.answer_all.Given as goal

abbrev pub invariant-loop-indication : goal.invariant-loop-indication
invariant-loop-indication g l =
    (l.answer.items ≡ l.fn.answer.items ++ map Fop (take l.indication-index l.indications))
    × (vec_len l.answer ≡ vec_len l.fn.answer + l.indication-index)
    × (vec_capacity l.answer ≡ vec_capacity l.fn.answer)
