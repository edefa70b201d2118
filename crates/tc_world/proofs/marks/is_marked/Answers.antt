-- Past the marks nothing is marked.
use Rattle.std.proofs.Common.{arith}
use Rattle.tc_world.proofs.MarkLemmas.{unmarked_past}
use Rattle.tc_world.proofs.marks.is_marked.Goals as goal

pub returns-then-place-marks : goal.returns-then-place-marks
returns-then-place-marks c = λ requests marked.
    let test = c.if-place-marks.true in
    let value = c.get-place.ensures.value in
    unmarked_past requests c.args.marks.now c.args.request (omega (arith, test, value)) marked
