use Rattle.std.proofs.Common.{take}
use Rattle.std.specs.List.{AllByRecursion}
use Rattle.tc_book.specs.Targets.{IsGoodTarget}
use Rattle.tc_book.proofs.reopening.known.has_good_targets.Given as goal

-- those so far may be named
abbrev pub invariant-loop-target : goal.invariant-loop-target
invariant-loop-target l = AllByRecursion (IsGoodTarget l.requests l.command) (take l.target-index l.target-items)
