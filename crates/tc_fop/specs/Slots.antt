-- The Sent_Queue in 256 slots: the slot of a number holds the request whose frame has it.
use Rattle.std.specs.Prelude.{ℕ, ◌+◌, ◌%◌, Option, Some, None, IsSome, List, [], ◌∷◌, ◌++◌, get_or}
use Rattle.std.proofs.Common.{zero, suc}
use Rattle.tc_fop.specs.declared.queues.Offer.{Offer}
use Rattle.tc_fop.specs.declared.queues.Outstanding.{Outstanding}

-- what a slot holds, as it is in the queue
abbrev pub held_in : ℕ → Option Offer → List Outstanding
held_in ns None = []
held_in ns (Some offer) = record { ns = ns; request = offer.request; body = offer.body } ∷ []

-- the queue of so many slots, from this number on
abbrev pub queued : List (Option Offer) → ℕ → ℕ → List Outstanding
queued slots ns zero = []
queued slots ns (suc n) = held_in ns (get_or slots ns None) ++ queued slots ((ns + 1) % 256) n

-- so many slots, from this number on, each hold a request
abbrev pub AreFilled : List (Option Offer) → ℕ → ℕ → Type 0
AreFilled slots ns zero = Unit {0}
AreFilled slots ns (suc n) = IsSome (get_or slots ns None) × AreFilled slots ((ns + 1) % 256) n
