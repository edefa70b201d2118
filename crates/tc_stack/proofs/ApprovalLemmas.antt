-- An approval that one person more has given.
use Rattle.std.proofs.Common.{◌≡◌, ℕ, ◌≤◌, ◌<◌, Bool, true, false, ◌||◌, if◌then◌else◌, Some, None, List, [], ◌∷◌, ◌++◌, length, refl, ◌∙◌, arith}
use Rattle.std.specs.List.{list_any, AllByRecursion, IsDistinct}
use Rattle.std.proofs.lemmas.List.{length-append}
use Rattle.std.proofs.lemmas.Cmp.{nat_list_eq_equiv}
use Rattle.std.proofs.lemmas.Bool.Decides.{nat_tests}
use Rattle.tc_types.specs.declared.refusals.Refusal.TheVariants.{SamePerson, ApprovedAlready}
use Rattle.tc_stack.specs.Approvals.{ApprovalState, IsApproval, is_same_person, is_complete, wanted, approved, refusal_of}

-- nobody approved so far
pub unapproved_sound : (author : List ℕ) (critical : Bool) → IsApproval (record { author = author; critical = critical; persons = [] })
unfolding IsDistinct
unapproved_sound author critical = record { few = by_size critical; apart = tt; others = refl }
  where
    by_size : (t : Bool) → 0 ≤ (if t then 2 else 1)
    by_size true = omega arith
    by_size false = omega arith

-- where a test finds none, neither does it here nor among the others
pub neither : (a b : Bool) → (a || b) ≡ false → (a ≡ false) × (b ≡ false)
neither true b e = cc
neither false b e = (refl, e)

pub same_turned : (a b : List ℕ) → is_same_person a b ≡ is_same_person b a
same_turned a b = nat_list_eq_equiv.symm a b

-- one more, who is none of these
apart_more : (persons : List (List ℕ)) (person : List ℕ) → list_any (is_same_person person) persons ≡ false → IsDistinct is_same_person persons → IsDistinct is_same_person (persons ++ person ∷ [])
unfolding IsDistinct
apart_more [] person none apart = (tt, tt)
apart_more (p ∷ ps) person none apart =
    let both = neither (is_same_person person p) (list_any (is_same_person person) ps) none in
    (all_more ps apart.0 (same_turned p person ∙ both.0), apart_more ps person both.1 apart.1)
  where
    all_more : (xs : List (List ℕ)) → AllByRecursion (λ y. is_same_person p y ≡ false) xs → is_same_person p person ≡ false → AllByRecursion (λ y. is_same_person p y ≡ false) (xs ++ person ∷ [])
    all_more [] all last = (last, tt)
    all_more (x ∷ xs) all last = (all.0, all_more xs all.1 last)

-- one more, at whom the test fails
none_more : (test : List ℕ → Bool) (persons : List (List ℕ)) (person : List ℕ) → list_any test persons ≡ false → test person ≡ false → list_any test (persons ++ person ∷ []) ≡ false
none_more test [] person none last = rw last refl
none_more test (p ∷ ps) person none last = let both = neither (test p) (list_any test ps) none in rw both.0 (none_more test ps person both.1 last)

-- one more, who is not the author and did not approve, where more are wanted
pub approved_sound : (s : ApprovalState) (person : List ℕ) → IsApproval s → is_same_person s.author person ≡ false → list_any (is_same_person person) s.persons ≡ false → is_complete s ≡ false
    → IsApproval (approved person s)
approved_sound s person is author persons unfinished =
    let len = length-append s.persons (person ∷ []) in
    let less : length s.persons < wanted s = grind (arith, nat_tests, unfinished) in
    record {
      few = omega (arith, len, less);
      apart = apart_more s.persons person persons is.apart;
      others = none_more (is_same_person s.author) s.persons person is.others author;
    }

-- of at most two more are wanted
pub open_below : (s : ApprovalState) → is_complete s ≡ false → length s.persons < 2
open_below s unfinished = by_size s.critical (let less : length s.persons < wanted s = grind (arith, nat_tests, unfinished) in less)
  where
    by_size : (t : Bool) → length s.persons < (if t then 2 else 1) → length s.persons < 2
    by_size true less = less
    by_size false less = omega (arith, less)

-- the same of a person whom no test refuses
pub unrefused_sound : (s : ApprovalState) (person : List ℕ) → IsApproval s → refusal_of person s ≡ None → IsApproval (approved person s)
unrefused_sound s person is may = by_author (is_same_person s.author person) refl
  where
    by_persons : (t : Bool) → (list_any (is_same_person person) s.persons || is_complete s) ≡ t → is_same_person s.author person ≡ false → IsApproval (approved person s)
    by_persons true e author = let none : Some ApprovedAlready ≡ None = rw (author, e) at may in cc
    by_persons false e author = let both = neither (list_any (is_same_person person) s.persons) (is_complete s) e in approved_sound s person is author both.0 both.1

    by_author : (t : Bool) → is_same_person s.author person ≡ t → IsApproval (approved person s)
    by_author true e = let none : Some SamePerson ≡ None = rw e at may in cc
    by_author false e = by_persons (list_any (is_same_person person) s.persons || is_complete s) refl e
