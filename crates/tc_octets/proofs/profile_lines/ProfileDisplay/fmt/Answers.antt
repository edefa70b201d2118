-- One line more.
use Rattle.std.proofs.Common.{rules, arith}
use Rattle.std.proofs.Output.{has_written_append, has_written_of_eq}
use Rattle.tc_octets.specs.declared.keys.Key.TheVariants as keys
use Rattle.tc_octets.proofs.ProfilePrintLemmas.{lines_more}
use Rattle.tc_octets.proofs.profile_lines.ProfileDisplay.fmt.Goals as goal

pub loop-key-preserved : goal.loop-key-preserved
loop-key-preserved g c =
    λ p. has_written_of_eq _ _ _ _ _ (lines_more c.args.self.now c.loop-key.key-index keys.Scid c.name-name.result.now (omega arith)
    c.name-name.ensures)
    (has_written_append _ _ _ _ _ _ (c.loop-key.invariant p) (search rules))
