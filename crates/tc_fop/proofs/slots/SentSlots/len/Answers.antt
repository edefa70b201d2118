-- So many slots are filled.
use Rattle.std.proofs.Common.{length, sym, ◌∙◌, ap}
use Rattle.tc_fop.proofs.SlotLemmas.{length_queued}
use Rattle.tc_fop.proofs.slots.SentSlots.len.Goals as goal

pub returns : goal.returns
returns g c = sym (length_queued c.self.inside.slots.items c.self.inside.first c.self.inside.count c.self.invariant.3) ∙ ap length c.self.view_is
