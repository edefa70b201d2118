-- It has a width.
use Rattle.std.proofs.lemmas.Bool.{lt-ltb}
use Rattle.tc_wall.specs.Bars.{stage_parts}
use Rattle.tc_wall.proofs.PartLemmas.{added}
use Rattle.tc_wall.proofs.bars.add_stage.Goals as goal

pub returns : goal.returns
unfolding stage_parts
returns g c = rw (lt-ltb c.args.begin c.args.end c.if-end-begin.false) (added _ _ _ _ (rw c.name-name.ensures at c.write.ensures.bytes))
