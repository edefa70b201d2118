-- The tests of a head, one after the other.
use Rattle.std.proofs.Common.{◌≡◌, ◌≢◌, ◌↔◌, ℕ, Bool, true, false, IsTrue, Some, List, codes, refl, sym}
use Rattle.tc_front.specs.Paths.{Named, path_of}
use Rattle.tc_front.specs.Fields.{values, Held, found_of, found_view}
use Rattle.tc_front.specs.Judge.{JudgesParts, JudgesCoding, JudgesBody, bad, method_of}
use Rattle.tc_front.specs.declared.fields.FieldValues.{FieldValues}
use Rattle.tc_front.specs.declared.fields.FieldValues.TheVariants.{Absent, One, Many}
use Rattle.tc_front.specs.declared.judge.Refused.TheVariants as refused
use Rattle.tc_front.specs.declared.judge.Judgement.{Judgement}
use Rattle.tc_front.specs.declared.judge.Judgement.TheVariants as judgement
use Rattle.tc_front.proofs.WordLemmas.{differ, agree}

-- another method
pub other_method : (method target served : List ℕ) (fields : List (List ℕ × List ℕ)) (named : Named) (r : Bool) → Some named ≡ path_of target
    → served ≡ method_of named → (IsTrue r ↔ (method ≡ served)) → r ≡ false → JudgesParts method target fields (judgement.Refused refused.OtherMethod)
other_method method target served fields named r path is same no_such = rw (sym path) (rw (sym is) (rw (differ method served r same no_such) refl))

coded : (found : FieldValues) (lengths : Held) (named : Named) → found ≢ Absent → JudgesCoding (found_view found) lengths named bad
coded Absent lengths named some = absurd (some refl)
coded (One v) lengths named some = refl
coded Many lengths named some = refl

-- a transfer coding
pub has_coding : (method target served : List ℕ) (fields : List (List ℕ × List ℕ)) (named : Named) (r : Bool) (found : FieldValues) → Some named ≡ path_of target
    → served ≡ method_of named → (IsTrue r ↔ (method ≡ served)) → r ≡ true → found_of (values (codes "transfer-encoding") fields) ≡ found_view found → found ≢ Absent
    → JudgesParts method target fields bad
has_coding method target served fields named r found path is same so coding some =
    rw (sym path) (rw (sym is) (rw (agree method served r same so) (rw coding (coded found _ named some))))

-- none, and what the body's length says
pub has_body : (method target served : List ℕ) (fields : List (List ℕ × List ℕ)) (named : Named) (r : Bool) (found lengths : FieldValues) (j : Judgement) → Some named ≡ path_of target
    → served ≡ method_of named → (IsTrue r ↔ (method ≡ served)) → r ≡ true → found_of (values (codes "transfer-encoding") fields) ≡ found_view found → found ≡ Absent
    → found_of (values (codes "content-length") fields) ≡ found_view lengths → JudgesBody (found_view lengths) named j → JudgesParts method target fields j
has_body method target served fields named r found lengths j path is same so coding none long body =
    rw (sym path) (rw (sym is) (rw (agree method served r same so) (rw coding (rw none (rw long body)))))
