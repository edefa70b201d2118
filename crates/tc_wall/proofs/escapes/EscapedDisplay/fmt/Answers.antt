-- One character more.
use Rattle.std.proofs.Common.{rules, sym}
use Rattle.std.proofs.Output.{has_written_append, has_written_of_eq}
use Rattle.tc_wall.proofs.EscapeLemmas.{escaped_more}
use Rattle.tc_wall.proofs.escapes.EscapedDisplay.fmt.Goals as goal

pub loop-character-preserved-in-Continue-1 : goal.loop-character-preserved-in-Continue-1
loop-character-preserved-in-Continue-1 g c =
    λ p. has_written_of_eq _ _ _ _ _ (escaped_more c.loop-character.yielded c.in-Some.character _ c.in-Some-entity.ensures.named) (has_written_append _ _ _ _ _ _ (c.loop-character.invariant p) (search rules))

pub loop-character-preserved : goal.loop-character-preserved
loop-character-preserved g c =
    λ p. has_written_of_eq _ _ _ _ _ (escaped_more c.loop-character.yielded c.in-Some.character _ (sym c.in-None-entity.ensures.plain)) (has_written_append _ _ _ _ _ _ (c.loop-character.invariant p) (search rules))
