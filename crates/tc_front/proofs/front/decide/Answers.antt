use Rattle.std.proofs.Common.{rules, refl, ap, ◌∙◌}
use Rattle.tc_front.specs.Ends.{head_end}
use Rattle.tc_front.proofs.FrontLemmas.{decided_some, decided_none, large, undecided}
use Rattle.tc_front.proofs.front.decide.Goals as goal

pub returns-in-Some-clause-some : goal.returns-in-Some-clause-some
returns-in-Some-clause-some c =
    decided_some c.end.result c.in-Some.end c.judge.result c.args.text.now _ c.complete.result (c.end.ensures.value ∙ ap head_end c.head_room.ensures.value) c.in-Some.is (rw c.skip_ends.ensures at c.judge.ensures) refl c.complete.ensures.some

pub returns-in-Some-clause-none : goal.returns-in-Some-clause-none
returns-in-Some-clause-none c =
    decided_none c.end.result c.in-Some.end c.judge.result c.args.text.now _ c.complete.result (c.end.ensures.value ∙ ap head_end c.head_room.ensures.value) c.in-Some.is (rw c.skip_ends.ensures at c.judge.ensures) refl c.complete.ensures.none

pub returns-in-None-clause-some : goal.returns-in-None-clause-some
returns-in-None-clause-some c =
    large c.end.result c.args.text.now (c.end.ensures.value ∙ ap head_end c.head_room.ensures.value) c.in-None.is (search rules)

pub returns-in-None-2-clause-none : goal.returns-in-None-2-clause-none
returns-in-None-2-clause-none c =
    undecided c.end.result c.args.text.now (c.end.ensures.value ∙ ap head_end c.head_room.ensures.value) c.in-None.is (search rules)
