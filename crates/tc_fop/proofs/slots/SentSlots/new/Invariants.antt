use Rattle.std.proofs.Common.{◌≡◌, ◌≤◌, vec_len, vec_capacity}
use Rattle.tc_fop.proofs.slots.SentSlots.new.Given as goal

abbrev pub invariant-loop : goal.invariant-loop
invariant-loop g l = (vec_len l.slots ≡ l.counter) × (256 ≤ vec_capacity l.slots)
