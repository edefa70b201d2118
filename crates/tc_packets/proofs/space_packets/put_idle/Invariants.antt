-- So many octets of idle were added.
use Rattle.std.proofs.Common.{◌≡◌, ◌++◌, replicate}
use Rattle.tc_packets.proofs.space_packets.put_idle.Given as goal

abbrev pub invariant-loop : goal.invariant-loop
invariant-loop g l = l.out.items ≡ l.fn.out.items ++ replicate l.counter 0x55
