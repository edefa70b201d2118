-- The next number tells the slot and the first.
use Rattle.std.proofs.Common.{◌≡◌, ◌+◌, ◌-◌, ◌%◌, ◌<◌, Some, List, [], ◌∷◌, ◌++◌, length, slice_get, refl, sym, ◌∙◌, ap, subst, arith}
use Rattle.std.proofs.lemmas.List.{length-set}
use Rattle.tc_fop.specs.declared.queues.Offer.{Offer}
use Rattle.tc_fop.specs.declared.queues.Outstanding.{Outstanding}
use Rattle.tc_fop.proofs.SlotLemmas.{length_queued, push_queue}
use Rattle.tc_fop.proofs.slots.SentSlots.push.Goals as goal

pub overflow_add-self : goal.overflow_add-self
overflow_add-self g c =
    let size : length c.args.self.now ≡ c.self.inside.count =
    sym (ap length c.self.view_is) ∙ length_queued c.self.inside.slots.items c.self.inside.first c.self.inside.count c.self.invariant.3 in
    let room = c.requires.room in
    omega (arith, size, room)

pub invariant_of-self : goal.invariant_of-self
invariant_of-self g c =
    let slots = c.self.inside.slots.items in
    let first = c.self.inside.first in
    let count = c.self.inside.count in
    let sent = c.args.sent.now in
    let offer : Offer = record { request = sent.request; body = sent.body } in
    let size : length c.args.self.now ≡ count = sym (ap length c.self.view_is) ∙ length_queued slots first count c.self.invariant.3 in
    let few = c.self.invariant.2 in
    let room = c.requires.room in
    let number : sent.ns < 256 = omega arith in
    let at : (sent.ns + (256 - count)) % 256 ≡ (sent.ns + 256 - count) % 256 = omega (arith, few) in
    let both = push_queue slots first count sent.ns ((sent.ns + (256 - count)) % 256) (count + 1) offer c.self.invariant.0 c.self.invariant.1 c.self.invariant.2 number c.self.invariant.3
    (subst (λ (l : List Outstanding). length l < 255) (sym c.self.view_is) room)
    (λ front e. subst (λ (l : List Outstanding). sent.ns ≡ (front.ns + length l) % 256) (sym c.self.view_is)
    (c.requires.next front (ap (λ (l : List Outstanding). slice_get l 0) (sym c.self.view_is) ∙ e))) at refl in
    (length-set slots sent.ns (Some offer) ∙ c.self.invariant.0, omega arith, omega (arith, size, room), both.1)

pub returns : goal.returns
returns g c =
    let slots = c.self.inside.slots.items in
    let first = c.self.inside.first in
    let count = c.self.inside.count in
    let sent = c.args.sent.now in
    let offer : Offer = record { request = sent.request; body = sent.body } in
    let few = c.self.invariant.2 in
    let room = c.requires.room in
    let number : sent.ns < 256 = omega arith in
    let at : (sent.ns + (256 - count)) % 256 ≡ (sent.ns + 256 - count) % 256 = omega (arith, few) in
    let both = push_queue slots first count sent.ns ((sent.ns + (256 - count)) % 256) (count + 1) offer c.self.invariant.0 c.self.invariant.1 c.self.invariant.2 number c.self.invariant.3
    (subst (λ (l : List Outstanding). length l < 255) (sym c.self.view_is) room)
    (λ front e. subst (λ (l : List Outstanding). sent.ns ≡ (front.ns + length l) % 256) (sym c.self.view_is)
    (c.requires.next front (ap (λ (l : List Outstanding). slice_get l 0) (sym c.self.view_is) ∙ e))) at refl in
    both.0 ∙ ap (λ (l : List Outstanding). l ++ sent ∷ []) c.self.view_is
