use Rattle.std.proofs.Common.{◌≡◌, ◌++◌, take, drop}
use Rattle.tc_octets.specs.Randomizer.{randomized, randomized_from}
use Rattle.tc_octets.proofs.randomizers.randomize.Given as goal

-- what is done, and what the sequence from here on makes of the rest
abbrev pub invariant-loop-octet : goal.invariant-loop-octet
invariant-loop-octet l = randomized l.initial.octets ≡ take l.octet-index l.octets ++ randomized_from l.window (drop l.octet-index l.octets)
