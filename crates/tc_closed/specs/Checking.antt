-- The check of a file: what is written, and the status.
use Rattle.std.specs.Prelude.{◌≡◌, ℕ, Bool, List, [], if◌then◌else◌}
use Rattle.tc_types.specs.declared.loads.LoadKind.{LoadKind}
use Rattle.tc_check.specs.Checks.{Says}
use Rattle.tc_front.specs.Write.{IsCutShort}
use Rattle.tc_closed.specs.declared.scripts.ScriptFault.{ScriptFault}
use Rattle.tc_closed.specs.declared.scripts.ScriptFault.TheVariants.{Memory, Output}

-- what is said of a text of this kind, and whether nothing is wrong with it
abbrev pub SaysOfText : LoadKind → List ℕ → List ℕ → Bool → Type 0
SaysOfText kind text told is_ok = (first : List ℕ) × Says kind text told first is_ok

-- in the words of what may be said
module _ (Said : List ℕ → Bool → Type 0) where
  -- a check writes this, and has this status: 0 where nothing is wrong, else 1
  abbrev pub IsChecked : List ℕ → ℕ → Type 0
  IsChecked written status = (is_ok : Bool) × Said written is_ok × (status ≡ (if is_ok then 0 else 1))

  -- One that ends with a fault has written this: nothing, for want of memory; or, where a write failed, a front of what is said, and never all of it.
  abbrev pub LeavesCheck : ScriptFault → List ℕ → Type 0
  LeavesCheck Output part = (whole : List ℕ) × (status : ℕ) × IsChecked whole status × IsCutShort whole part
  LeavesCheck Memory part = part ≡ []
  LeavesCheck other part = ⊥
