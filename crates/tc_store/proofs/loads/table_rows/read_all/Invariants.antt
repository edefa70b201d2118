use Rattle.std.proofs.Common.{◌≡◌, List, map, take}
use Rattle.std.specs.List.{AllByRecursion}
use Rattle.tc_store.proofs.ShowLemmas.{AreWide}
use Rattle.tc_store.proofs.loads.table_rows.read_all.Given as goal

-- What was found is what the rows so far were read as, and they show it.
abbrev pub invariant-rows : goal.invariant-rows
invariant-rows g l =
    ((all : List g.row.T.Denot) → AllByRecursion g.T.Loads.is_told all → l.rows ≡ map g.T.Loads.shown all → l.found.items ≡ take l.row-index all)
    × (AreWide g.T.Loads.shown l.rows → take l.row-index l.rows ≡ map g.T.Loads.shown l.found.items)
    × AllByRecursion g.T.Loads.is_told l.found.items
