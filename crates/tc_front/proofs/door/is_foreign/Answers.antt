use Rattle.std.proofs.Common.{ap, ◌∙◌}
use Rattle.tc_front.specs.Ends.{head_end}
use Rattle.tc_front.proofs.DoorLemmas.{front_found, no_front}
use Rattle.tc_front.proofs.door.is_foreign.Goals as goal

pub returns-in-Some : goal.returns-in-Some
returns-in-Some c =
    front_found c.end.result c.in-Some.end _ c.args.text.now c.is_foreign_head.result (c.end.ensures.value ∙ ap head_end c.head_room.ensures.value) c.in-Some.is (rw c.skip_ends.ensures at c.is_foreign_head.ensures)

pub returns-in-None : goal.returns-in-None
returns-in-None c = no_front c.end.result _ c.args.text.now (c.end.ensures.value ∙ ap head_end c.head_room.ensures.value) c.in-None.is
