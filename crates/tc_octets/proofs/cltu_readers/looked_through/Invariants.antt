-- The octets of the block that failed, as far as they were looked through.
use Rattle.std.proofs.Common.{◌≡◌, false, take}
use Rattle.std.specs.List.{fold}
use Rattle.tc_octets.specs.Cltus.{come, searching}
use Rattle.tc_octets.proofs.cltu_readers.looked_through.Given as goal

abbrev pub invariant-loop-octet : goal.invariant-loop-octet
invariant-loop-octet l = l.spot ≡ fold come (searching false) (take l.octet-index l.block)
