use Rattle.std.proofs.Common.{refl}
use Rattle.tc_room.proofs.RoomLemmas.{new_held}
use Rattle.tc_room.proofs.opening.open_new.Goals as goal

pub returns-in-Ok-create-clause-made : goal.returns-in-Ok-create-clause-made
returns-in-Ok-create-clause-made g c = rw c.over.ensures (record {
  desk = c.in-Ok.ensures.made;
  opened = c.in-Ok.ensures.opened;
  whole = c.in-Ok.ensures.whole;
  tables = λ going clean. new_held g.S.Store c.args.config c.in-Ok.desk.parts c.in-Ok-create.tables c.in-Ok.ensures.made (c.in-Ok-create.ensures.made clean) (c.in-Ok-create.ensures.durable clean);
  going = refl;
})
