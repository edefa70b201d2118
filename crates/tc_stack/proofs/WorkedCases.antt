-- The definitions carried out on a critical request of ann, which bob and eve approve.
use Rattle.std.proofs.Common.{◌≡◌, ℕ, true, false, Some, List, codes, refl}
use Rattle.tc_types.specs.declared.refusals.Refusal.TheVariants.{SamePerson, ApprovedAlready}
use Rattle.tc_stack.specs.Approvals.{ApprovalState, unapproved, approved, refusal_of, is_complete}

abbrev ann : List ℕ
ann = codes "ann"

abbrev bob : List ℕ
bob = codes "bob"

abbrev eve : List ℕ
eve = codes "eve"

abbrev by_bob : ApprovalState
by_bob = approved bob (unapproved ann true)

pub not_the_author : refusal_of ann (unapproved ann true) ≡ Some SamePerson
not_the_author = refl

pub not_twice : refusal_of bob by_bob ≡ Some ApprovedAlready
not_twice = refl

pub one_is_too_few : is_complete by_bob ≡ false
one_is_too_few = refl

pub two_are_enough : is_complete (approved eve by_bob) ≡ true
two_are_enough = refl

pub no_third : refusal_of (codes "joe") (approved eve by_bob) ≡ Some ApprovedAlready
no_third = refl

-- one person is enough where the request is not critical
pub one_is_enough : is_complete (approved bob (unapproved ann false)) ≡ true
one_is_enough = refl
