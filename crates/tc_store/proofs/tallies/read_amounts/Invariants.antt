use Rattle.std.proofs.Common.{◌≡◌, List, map, take, length}
use Rattle.tc_types.specs.declared.tables.rows.Tally.{Tally}
use Rattle.tc_store.specs.Tallies.{tally_shown}
use Rattle.tc_store.proofs.tallies.read_amounts.Given as goal

abbrev pub invariant-places : goal.invariant-places
invariant-places l = (length l.amounts ≡ 15) × ((all : List Tally) → l.rows ≡ map tally_shown all → take l.i l.amounts ≡ take l.i (map (λ (t : Tally). t.amount) all))
