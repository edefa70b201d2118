use Rattle.std.proofs.Common.{◌≡◌, ◌++◌, take}
use Rattle.std.specs.List.{filter_map}
use Rattle.tc_book.specs.Stacks.{begun_by}
use Rattle.tc_book.proofs.reopening.tables.are_stacks.Given as goal

-- those of the requests so far are in front of the others
abbrev pub invariant-loop-request : goal.invariant-loop-request
invariant-loop-request l = l.stacks ≡ filter_map (begun_by l.requests) (take l.request-index l.requests) ++ l.rest
