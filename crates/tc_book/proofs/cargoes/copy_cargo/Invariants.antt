use Rattle.std.proofs.Common.{◌≡◌, ◌+◌, ◌≤◌, ◌++◌, length, map, take, vec_len, vec_capacity}
use Rattle.std.specs.List.{flat_map}
use Rattle.tc_types.specs.declared.tables.rows.Row.TheVariants.{Carried}
use Rattle.tc_book.specs.Cargoes.{cargo_of}
use Rattle.tc_book.proofs.cargoes.copy_cargo.Given as goal

abbrev pub invariant-loop-request : goal.invariant-loop-request
invariant-loop-request g l =
    (l.batch.items ≡ l.fn.batch.items ++ map (λ cargo. Carried cargo) (flat_map cargo_of (take l.request-index l.requests)))
    × (vec_len l.batch ≤ vec_len l.fn.batch + length (flat_map cargo_of (take l.request-index l.requests)))
    × (vec_capacity l.fn.batch ≤ vec_capacity l.batch)
