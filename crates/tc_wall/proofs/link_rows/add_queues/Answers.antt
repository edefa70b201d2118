-- One after the other.
use Rattle.tc_wall.specs.LinkParts.{queue_parts}
use Rattle.tc_wall.proofs.PartLemmas.{then_adds, last_adds}
use Rattle.tc_wall.proofs.link_rows.add_queues.Goals as goal

pub returns : goal.returns
unfolding queue_parts
returns g c = last_adds _ _ _ _ _ _ (then_adds _ _ _ _ _ (then_adds _ _ _ _ _ (rw c.fop_words.ensures at c.in_ok-add_worded.ensures) c.in_ok-add_small_share.ensures) c.in_ok-add_number.ensures) c.add_small_share-2.ensures
