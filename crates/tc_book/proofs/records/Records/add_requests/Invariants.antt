use Rattle.std.proofs.Common.{◌≡◌, ◌++◌, take}
use Rattle.std.specs.List.{filter_map}
use Rattle.tc_book.specs.Waiting.{request_waits}
use Rattle.tc_book.proofs.records.Records.add_requests.Given as goal

abbrev pub invariant-loop-at : goal.invariant-loop-at
invariant-loop-at g l = l.waiting.items ≡ l.fn.waiting.items ++ filter_map (request_waits l.self.book) (take l.at l.self.book.requests)
