-- What is read of a slot is what stands at its place in the queue.
use Rattle.std.proofs.Common.{◌≡◌, ◌+◌, ◌%◌, ◌<◌, Option, Some, None, is_some, List, length, get_or, slice_get, sym, ◌∙◌, ap, arith}
use Rattle.std.proofs.lemmas.Bool.{false≢true}
use Rattle.tc_fop.specs.declared.queues.Offer.{Offer}
use Rattle.tc_fop.specs.declared.queues.Outstanding.{Outstanding}
use Rattle.tc_fop.proofs.SlotLemmas.{length_queued, slot_at, slot_filled, slot_read, none_past, taken_from}
use Rattle.tc_fop.proofs.slots.SentSlots.get.Goals as goal

pub returns-then-place-self : goal.returns-then-place-self
returns-then-place-self g c =
    let size : length c.args.self.now ≡ c.self.inside.count =
    sym (ap length c.self.view_is) ∙ length_queued c.self.inside.slots.items c.self.inside.first c.self.inside.count c.self.invariant.3 in
    let past = c.if-place-self.true in
    sym (none_past c.args.self.now c.args.place (omega (arith, size, past)))

pub unreachable-requires : goal.unreachable-requires
unreachable-requires g c =
    let slots = c.self.inside.slots.items in
    let k = (c.self.inside.first + c.args.place) % 256 in
    let filled = slot_filled slots c.self.inside.first c.self.inside.count c.args.place c.self.invariant.1 c.if-place-self.false c.self.invariant.3 in
    let none : get_or slots k None ≡ None = sym (ap (λ (d : Option Offer). get_or slots k d) c.in-None.is) ∙ sym c.index.ensures ∙ c.in-None.is in
    false≢true (sym (ap (λ (o : Option Offer). is_some o) none) ∙ filled)

pub returns : goal.returns
returns g c =
    let slots = c.self.inside.slots.items in
    let k = (c.self.inside.first + c.args.place) % 256 in
    let all = c.self.invariant.0 in
    let there : k < length slots = omega (arith, all) in
    let found : get_or slots k None ≡ Some c.in-Some.offer = slot_read slots k c.index.result.now there c.index.ensures ∙ c.in-Some.is in
    sym (ap (λ (l : List Outstanding). slice_get l c.args.place) (sym c.self.view_is)
    ∙ slot_at slots c.self.inside.first c.self.inside.count c.args.place c.self.invariant.1 c.if-place-self.false c.self.invariant.3
    ∙ ap (λ (o : Option Offer). taken_from k o) found)
