use Rattle.std.proofs.Common.{◌≡◌, take}
use Rattle.std.specs.List.{filter_map}
use Rattle.tc_urgent.specs.Judging.{open_insert}
use Rattle.tc_urgent.proofs.inserts.open_inserts.Given as goal

abbrev pub invariant-loop-at : goal.invariant-loop-at
invariant-loop-at g l = l.inserts.items ≡ filter_map (open_insert l.book.book) (take l.at l.book.book.requests)
