-- No bit is left to be turned.
use Rattle.std.proofs.Common.{sym, ◌∙◌, arith}
use Rattle.tc_octets.proofs.CodeblockLemmas.{turned_ended_at}
use Rattle.tc_octets.proofs.codeblocks.mended.Goals as goal

pub returns : goal.returns
returns c = sym (c.loop-place.invariant ∙ turned_ended_at c.loop-place.place c.args.block.now (omega arith))
