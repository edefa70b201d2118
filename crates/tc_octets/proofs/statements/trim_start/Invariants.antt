use Rattle.std.proofs.Common.{◌≡◌, length}
use Rattle.tc_octets.specs.ProfileTexts.{trimmed_start}
use Rattle.tc_octets.proofs.statements.trim_start.Given as goal

abbrev pub invariant-loop-more : goal.invariant-loop-more
invariant-loop-more l = trimmed_start l.rest ≡ trimmed_start l.text

abbrev pub decreases-loop-more : goal.decreases-loop-more
decreases-loop-more l = length l.rest
