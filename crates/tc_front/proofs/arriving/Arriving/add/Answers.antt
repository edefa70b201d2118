use Rattle.tc_front.proofs.WantedLemmas.{watches_more}
use Rattle.tc_front.proofs.arriving.Arriving.add.Goals as goal

pub decides-requires : goal.decides-requires
decides-requires c =
    rw c.deref.ensures.value (rw c.in_ok-extend_from_slice.ensures.items (watches_more c.self.inside.watch c.self.inside.text.items c.args.bytes.now c.self.invariant))
