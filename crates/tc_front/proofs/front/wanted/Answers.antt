use Rattle.std.proofs.Common.{◌≤◌, ◌+◌, ◌∙◌, ap, refl, arith, length}
use Rattle.tc_front.specs.Ends.{head_end}
use Rattle.tc_front.specs.Front.{size_of}
use Rattle.tc_front.proofs.WantedLemmas.{small_judgement, wants_body, wants_byte}
use Rattle.tc_front.proofs.front.wanted.Goals as goal

pub overflow_add-result : goal.overflow_add-result
overflow_add-result c =
    let small : size_of c.judge.result ≤ 65536 = small_judgement _ _ c.judge.ensures in
    omega (arith, c.body_size.ensures, c.in-Some.ensures.within, c.head_room-head.ensures.short)

pub returns-in-Some-clause-wanted : goal.returns-in-Some-clause-wanted
returns-in-Some-clause-wanted c =
    wants_body c.end.result c.in-Some.end c.body_size.result _ c.judge.result c.args.text.now (c.end.ensures.value ∙ ap head_end c.head_room-head.ensures.value) c.in-Some.is (rw c.skip_ends.ensures at c.judge.ensures) c.body_size.ensures refl

pub returns-in-None-clause-wanted : goal.returns-in-None-clause-wanted
returns-in-None-clause-wanted c =
    wants_byte c.end.result _ c.args.text.now (c.end.ensures.value ∙ ap head_end c.head_room-head.ensures.value) c.in-None.is (ap (λ xs. length xs + 1) c.head_room-head.ensures.value)
