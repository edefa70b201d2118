use Rattle.std.proofs.Common.{◌≡◌, drop}
use Rattle.tc_octets.specs.Markers.{from_marker}
use Rattle.tc_octets.proofs.markers.first_place.Given as goal

-- no marker may begin before this place
abbrev pub invariant-loop-at : goal.invariant-loop-at
invariant-loop-at l = from_marker (drop l.start l.octets) ≡ from_marker (drop l.at l.octets)
