use Rattle.std.proofs.Common.{◌≡◌, ◌+◌, ◌≤◌, ◌++◌, map, take, vec_len, vec_capacity}
use Rattle.tc_types.specs.declared.tables.rows.Row.TheVariants.{Carried}
use Rattle.tc_book.specs.Cargoes.{cargo_from}
use Rattle.tc_book.proofs.cargoes.push_rides.Given as goal

abbrev pub invariant-loop-at : goal.invariant-loop-at
invariant-loop-at g l =
    (l.batch.items ≡ l.fn.batch.items ++ map (λ cargo. Carried cargo) (cargo_from l.number 2 (take l.at l.rides)))
    × (vec_len l.batch ≤ vec_len l.fn.batch + l.at)
    × (vec_capacity l.fn.batch ≤ vec_capacity l.batch)
