use Rattle.std.proofs.Common.{◌/◌, ◌^◌, arith}
use Rattle.std.proofs.lemmas.Nat.{one_shl, and_mask}
use Rattle.tc_farm.proofs.clcws.Clcw.bits.Goals as goal

-- a mask of ones is a remainder
pub returns : goal.returns
returns c = rw (one_shl c.args.width 32 (omega arith)) (and_mask (c.args.word / 2 ^ c.args.low) c.args.width)
