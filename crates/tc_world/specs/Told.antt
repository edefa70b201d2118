-- What is told of one event, as a list.
use Rattle.std.specs.Prelude.{List}
use Rattle.tc_world.specs.declared.events.LinkIndication.{LinkIndication}
use Rattle.tc_world.specs.declared.indications.Listed.{Listed}
use Rattle.tc_world.specs.declared.indications.Listed.TheVariants.{Lone, Many}

abbrev pub listed_in : {A : Type 0} → Listed A → List LinkIndication
listed_in (Lone one) = one
listed_in (Many all) = all.items
