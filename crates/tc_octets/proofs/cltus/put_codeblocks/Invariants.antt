-- The codeblocks so far, and those of the octets that are left.
use Rattle.std.proofs.Common.{◌≡◌, ◌++◌, ◌-◌, ◌*◌, ◌/◌, drop, length}
use Rattle.tc_octets.specs.Cltus.{codeblocks_of}
use Rattle.tc_octets.proofs.cltus.put_codeblocks.Given as goal

abbrev pub invariant-loop-block : goal.invariant-loop-block
invariant-loop-block g l =
    l.out.items ++ codeblocks_of (length l.octets / 7 - l.block) (drop (7 * l.block) l.octets)
    ≡ l.fn.out.items ++ codeblocks_of (length l.octets / 7) l.octets
