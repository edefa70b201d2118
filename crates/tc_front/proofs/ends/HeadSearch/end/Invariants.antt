use Rattle.std.proofs.Common.{◌-◌, length}
use Rattle.tc_front.specs.Ends.{HasSearched}
use Rattle.tc_front.proofs.ends.HeadSearch.end.Given as goal

-- No head ends in the bytes that were looked at.
abbrev pub invariant-loop-self : goal.invariant-loop-self
invariant-loop-self l = HasSearched l.self l.text

abbrev pub decreases-loop-self : goal.decreases-loop-self
decreases-loop-self l = length l.text - l.self.place
