-- Who has a number, and that one more request at the end leaves all others as they are.
use Rattle.std.proofs.Common.{◌≡◌, ◌≢◌, ℕ, zero, suc, ◌+◌, ◌-◌, ◌<◌, ◌≤◌, ◌==◌, Bool, true, false, if◌then◌else◌, Some, None, List, [], ◌∷◌, ◌++◌, length, refl, ap, arith}
use Rattle.std.specs.List.{slice_get}
use Rattle.std.proofs.lemmas.Option.{slice_get_within}
use Rattle.std.proofs.lemmas.Bool.Decides.{nat_tests}
use Rattle.tc_types.specs.declared.requests.Request.{Request}
use Rattle.tc_book.specs.Book.{request_in}

-- the number of a request is none past the last
pub number_low : (requests : List Request) (n : ℕ) (r : Request) → request_in requests n ≡ Some r → (0 < n) × (n ≤ length requests)
number_low requests n r here = by_zero (n == 0) refl here
  where
    by_zero : (t : Bool) → (n == 0) ≡ t → (if t then None else slice_get requests (n - 1)) ≡ Some r → (0 < n) × (n ≤ length requests)
    by_zero true e found = cc
    by_zero false e found =
        let low : n - 1 < length requests = slice_get_within requests (n - 1) r found in
        let some : n ≢ 0 = λ is. grind (arith, nat_tests) in
        (omega (arith, some), omega (arith, low, some))

slice_get_other : {X : Type 0} (xs : List X) (y : X) (i : ℕ) → i ≢ length xs → slice_get (xs ++ y ∷ []) i ≡ slice_get xs i
slice_get_other [] y zero other = absurd (other refl)
slice_get_other [] y (suc i) other = refl
slice_get_other (x ∷ xs) y zero other = refl
slice_get_other (x ∷ xs) y (suc i) other = slice_get_other xs y i (λ e. other (ap suc e))

slice_get_next : {X : Type 0} (xs : List X) (y : X) → slice_get (xs ++ y ∷ []) (length xs) ≡ Some y
slice_get_next [] y = refl
slice_get_next (x ∷ xs) y = slice_get_next xs y

-- an entry changes no request but the one with the next number
pub request_in-more : (requests : List Request) (r : Request) (n : ℕ) → n ≢ length requests + 1 → request_in (requests ++ r ∷ []) n ≡ request_in requests n
request_in-more requests r n other = by_zero (n == 0) refl
  where
    by_zero : (t : Bool) → (n == 0) ≡ t → (if t then None else slice_get (requests ++ r ∷ []) (n - 1)) ≡ (if t then None else slice_get requests (n - 1))
    by_zero true e = refl
    by_zero false e =
        let some : n ≢ 0 = λ is. grind (arith, nat_tests) in
        slice_get_other requests r (n - 1) (λ is. other (omega (arith, some, is)))

-- who is found is found with more behind, too
slice_get_front : {X : Type 0} (xs ys : List X) (i : ℕ) (x : X) → slice_get xs i ≡ Some x → slice_get (xs ++ ys) i ≡ Some x
slice_get_front [] ys i x here = cc
slice_get_front (y ∷ xs) ys zero x here = here
slice_get_front (y ∷ xs) ys (suc i) x here = slice_get_front xs ys i x here

pub request_in-front : (requests more : List Request) (x : Request) (n : ℕ) → request_in requests n ≡ Some x → request_in (requests ++ more) n ≡ Some x
request_in-front requests more x n here = by_zero (n == 0) here
  where
    by_zero : (t : Bool) → (if t then None else slice_get requests (n - 1)) ≡ Some x → (if t then None else slice_get (requests ++ more) (n - 1)) ≡ Some x
    by_zero true found = found
    by_zero false found = slice_get_front requests more (n - 1) x found

-- the last one
pub request_in-next : (requests : List Request) (r : Request) → request_in (requests ++ r ∷ []) (length requests + 1) ≡ Some r
request_in-next requests r =
    let some : (length requests + 1 == 0) ≡ false = grind (arith, nat_tests) in
    let place : length requests + 1 - 1 ≡ length requests = omega arith in
    rw (some, place) (slice_get_next requests r)
