use Rattle.std.proofs.Common.{◌≡◌, ◌≤◌, length, drop}
use Rattle.tc_types.specs.Schedule.{has_twice}
use Rattle.tc_types.proofs.targets.has_twice.Given as goal

-- no number before this one stands there twice
abbrev pub invariant-loop-index : goal.invariant-loop-index
invariant-loop-index l = (has_twice l.numbers ≡ has_twice (drop l.index l.numbers)) × (l.index ≤ length l.numbers)
