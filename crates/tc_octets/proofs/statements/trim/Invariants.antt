use Rattle.std.proofs.Common.{◌≡◌, length, reverse}
use Rattle.tc_octets.specs.ProfileTexts.{trimmed, trimmed_start}
use Rattle.tc_octets.proofs.statements.trim.Given as goal

abbrev pub invariant-loop-more : goal.invariant-loop-more
invariant-loop-more l = reverse (trimmed_start (reverse l.rest)) ≡ trimmed l.text

abbrev pub decreases-loop-more : goal.decreases-loop-more
decreases-loop-more l = length l.rest
