use Rattle.std.proofs.Common.{refl}
use Rattle.sqlite.specs.Steps.{over_memory}
use Rattle.tc_room.proofs.RoomLemmas.{new_held}
use Rattle.tc_room.proofs.opening.Room+MemStore.open_in_memory.Goals as goal

pub returns-in-Ok-create-clause-opened : goal.returns-in-Ok-create-clause-opened
returns-in-Ok-create-clause-opened c = rw c.over.ensures (record {
  desk = c.in_ok-desk.ensures.made;
  opened = c.in_ok-desk.ensures.opened;
  whole = c.in_ok-desk.ensures.whole;
  tables = λ going clean. new_held over_memory c.args.config c.in_ok-desk.desk.parts c.in-Ok-create.tables c.in_ok-desk.ensures.made (c.in-Ok-create.ensures.made clean) (c.in-Ok-create.ensures.durable clean);
  going = refl;
})
