use Rattle.std.proofs.Common.{◌≡◌, ◌++◌, take}
use Rattle.std.specs.List.{filter_map}
use Rattle.tc_urgent.specs.Lines.{request_line}
use Rattle.tc_urgent.proofs.urgents.add_requests.Given as goal

abbrev pub invariant-loop-at : goal.invariant-loop-at
invariant-loop-at g l = l.lines.items ≡ l.fn.lines.items ++ filter_map (request_line l.book.book l.given.opened l.given.scheduled.now) (take l.at l.book.book.requests)
