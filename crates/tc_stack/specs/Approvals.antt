-- The approval of a request: a set of persons without its author (this desk's own rule).
use Rattle.std.specs.Prelude.{◌≡◌, ℕ, ◌≤◌, nat_eq, nat_le, Bool, false, ◌||◌, if◌then◌else◌, Option, Some, None, Result, Ok, Err, List, [], ◌∷◌, ◌++◌, length}
use Rattle.std.specs.List.{list_any, IsDistinct}
use Rattle.std.specs.Cmp.Lexicographic.{pointwise}
use Rattle.tc_types.specs.declared.refusals.Refusal.{Refusal}
use Rattle.tc_types.specs.declared.refusals.Refusal.TheVariants.{SamePerson, ApprovedAlready}
use Rattle.tc_types.specs.Tests.{first_refusal}

-- Persons are named by their bytes.
pub record ApprovalState : Type 0 where
  pub author : List ℕ
  pub critical : Bool
  -- who approved, in the order in which they did
  pub persons : List (List ℕ)

abbrev pub is_same_person : List ℕ → List ℕ → Bool
is_same_person a b = pointwise nat_eq a b

-- how many persons are wanted: two where the request is critical
abbrev pub wanted : ApprovalState → ℕ
wanted s = if s.critical then 2 else 1

abbrev pub is_complete : ApprovalState → Bool
is_complete s = nat_le (wanted s) (length s.persons)

-- nobody approved so far
abbrev pub unapproved : List ℕ → Bool → ApprovalState
unapproved author critical = record { author = author; critical = critical; persons = [] }

-- as approvals can be: never more than are wanted, no person twice, and not the author
pub record IsApproval (s : ApprovalState) : Type 0 where
  pub few : length s.persons ≤ wanted s
  pub apart : IsDistinct is_same_person s.persons
  pub others : list_any (is_same_person s.author) s.persons ≡ false

-- The tests of an approval, with their refusals, in order.
abbrev pub tests_of : List ℕ → ApprovalState → List (Bool × Refusal)
tests_of person s =
    (is_same_person s.author person, SamePerson)
    ∷ (list_any (is_same_person person) s.persons || is_complete s, ApprovedAlready)
    ∷ []

abbrev pub refusal_of : List ℕ → ApprovalState → Option Refusal
refusal_of person s = first_refusal (tests_of person s)

-- one person more; a refusal changes nothing
abbrev pub approved : List ℕ → ApprovalState → ApprovalState
approved person s = record s { persons = s.persons ++ person ∷ [] }

abbrev pub after_approval : Option Refusal → List ℕ → ApprovalState → ApprovalState
after_approval None person s = approved person s
after_approval (Some why) person s = s

-- the refusal that a call answers
abbrev pub refused_with : {T : Type 0} → Result T Refusal → Option Refusal
refused_with (Ok done) = None
refused_with (Err why) = Some why
