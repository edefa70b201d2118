-- The end of a check.
use Rattle.std.proofs.Common.{◌≡◌, ℕ, Bool, Option, List, Result, false, true, if◌then◌else◌, not, refl}
use Rattle.std.specs.Io.KnownBytes.{Appends}
use Rattle.tc_types.specs.declared.counted.Counts.{Counts}
use Rattle.tc_front.specs.Write.{IsCutShort}
use Rattle.tc_closed.specs.Checking.{IsChecked, LeavesCheck}
use Rattle.tc_closed.specs.Scripts.{Ends}
use Rattle.tc_closed.specs.declared.scripts.ScriptFault.{ScriptFault}
use Rattle.tc_closed.specs.declared.scripts.ScriptFault.TheVariants.{Output}
use Rattle.tc_closed.proofs.EndsLemmas.{ends_so}

-- 1 where it is not well, else 0
pub turned : (ok : Bool) → ◌≡◌ {A = ℕ} (if not ok then 1 else 0) (if ok then 0 else 1)
turned true = refl
turned false = refl

-- what was said was written, and the status is that
pub checked_so : (Said : List ℕ → Bool → Type 0) (told : List ℕ) (is_ok : Bool) (from to : Option (List ℕ)) (old new : Counts) (result : Result ℕ ScriptFault) → Said told is_ok
    → Ends {X = ℕ} (λ status. Appends from to told × (status ≡ (if is_ok then 0 else 1))) (λ fault. (fault ≡ Output) × (part : List ℕ) × IsCutShort told part × Appends from to part) old new result
    → Ends {X = ℕ} (λ status. (whole : List ℕ) × IsChecked Said whole status × Appends from to whole) (λ fault. (part : List ℕ) × LeavesCheck Said fault part × Appends from to part) old new result
checked_so Said told is_ok from to old new result said ends =
    ends_so _ _ _ _ old old new result ends (λ none. none)
    (λ status (written, is). (told, (is_ok, said, is), written))
    (λ fault (is, part, cut, written). (part, rw is (told, (if is_ok then 0 else 1), (is_ok, said, refl), cut), written))
