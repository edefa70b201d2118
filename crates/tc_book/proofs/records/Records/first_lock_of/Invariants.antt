use Rattle.std.proofs.Common.{◌≡◌, [], take}
use Rattle.std.specs.List.{filter_map}
use Rattle.tc_book.specs.Waiting.{lock_of}
use Rattle.tc_book.proofs.records.Records.first_lock_of.Given as goal

-- none so far is held back
abbrev pub invariant-loop-number : goal.invariant-loop-number
invariant-loop-number g l = filter_map (lock_of l.self.book) (take l.number-index l.numbers) ≡ []
