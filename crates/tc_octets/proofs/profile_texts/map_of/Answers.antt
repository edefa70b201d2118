use Rattle.std.proofs.Common.{◌≤◌, arith}
use Rattle.tc_octets.specs.declared.keys.Key.TheVariants as keys
use Rattle.tc_octets.proofs.ProfileValueLemmas.{some_map}
use Rattle.tc_octets.proofs.profile_texts.map_of.Goals as goal

pub overflow_cast-result : goal.overflow_cast-result
overflow_cast-result c =
    let small : c.in_ok-id.id ≤ 63 = some_map _ _ c.in_ok-id.ensures (rw c.value_of.ensures (c.requires.each keys.TcMap)) in omega arith

pub invariant_of-result : goal.invariant_of-result
invariant_of-result c = record { id_fits = some_map _ _ c.in_ok-id.ensures (rw c.value_of.ensures (c.requires.each keys.TcMap)) }
