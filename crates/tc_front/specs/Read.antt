-- The reading of a request.
use Rattle.std.specs.Prelude.{◌≡◌, ℕ, ◌<◌, ◌⊎◌, List, ◌++◌}
use Rattle.tc_types.specs.declared.counted.Counts.{Counts}
use Rattle.tc_types.specs.declared.refusals.Refusal.{Refusal}
use Rattle.tc_types.specs.declared.refusals.Refusal.TheVariants.{Memory, ReadFault}
use Rattle.tc_front.specs.declared.read.FrontFault.{FrontFault}
use Rattle.tc_front.specs.declared.read.FrontFault.TheVariants as fault
use Rattle.tc_front.specs.Front.{Asked, IsDecided}

-- no front of this text decides
abbrev pub NoFront : List ℕ → Type 0
NoFront text = (front rest : List ℕ) (asked : Asked) → text ≡ front ++ rest → ¬ (IsDecided front asked)

-- the reader failed once, or ended once
abbrev pub HasStopped : Counts → Type 0
HasStopped counts = (counts.faults ≡ 1) ⊎ (counts.ends ≡ 1)

-- it did neither, and was read fewer times than there are bytes that always decide
pub record CanGoOn (counts : Counts) : Type 0 where
  pub faults : counts.faults ≡ 0
  pub ends : counts.ends ≡ 0
  pub reads : counts.reads < 73728

-- what is told where none was read
abbrev pub refusal_of : FrontFault → Refusal
refusal_of fault.Unread = ReadFault
refusal_of fault.Memory = Memory
