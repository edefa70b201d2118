-- The rows of a stack stand one after the other, so that they are counted from its line 1 on.
use Rattle.std.proofs.Common.{◌≡◌, ℕ, zero, suc, ◌+◌, ◌-◌, ◌≤◌, ◌==◌, ◌&&◌, ◌||◌, Bool, true, false, cond, if◌then◌else◌, Option, Some, None, List, [], ◌∷◌, ◌++◌, length, drop, inl, inr, refl, sym, ◌∙◌, ap, subst, arith}
use Rattle.std.specs.Prelude.{IfSome, IsSomeAnd, count_by}
use Rattle.std.specs.List.{AllByRecursion, list_any, slice_get, take_while}
use Rattle.std.proofs.lemmas.Bool.{false≢true, or_from, or_parts}
use Rattle.std.proofs.lemmas.List.{length-append}
use Rattle.std.proofs.lemmas.List.Folds.{list_any-append}
use Rattle.std.proofs.lemmas.List.Sums.{sum_by-cons, take_while-cons}
use Rattle.tc_types.specs.declared.requests.Request.{Request}
use Rattle.tc_types.specs.declared.requests.Origin.{Origin}
use Rattle.tc_types.specs.History.{AllAfter}
use Rattle.tc_types.specs.Names.{is_same_name}
use Rattle.tc_types.proofs.RideLemmas.{each_appended}
use Rattle.tc_book.specs.Book.{request_in}
use Rattle.tc_book.specs.Good.{IsGoodRequest, IsGoodOrigin, IsNextRow}
use Rattle.tc_book.specs.Stacks.{has_stack, is_in_stack, is_row_of}
use Rattle.tc_book.specs.Waiting.{BeginsStack}
use Rattle.tc_book.proofs.RequestLemmas.{request_in-next}
use Rattle.tc_book.proofs.StackLemmas.{same_name, name_itself}

-- lines are numbered from 1
abbrev IsLined : Request → Type 0
IsLined r = IfSome r.origin (λ (o : Origin). 1 ≤ o.line)

lined : (before : List Request) (r : Request) → IsGoodRequest before r → IsLined r
lined before r good = by_origin r.origin good.origin
  where
    by_before : (o : Origin) (origin : Option Origin) → IsSomeAnd origin (λ (p : Origin). (p.stack ≡ o.stack) × (o.line ≡ p.line + 1)) → 1 ≤ o.line
    by_before o None next = absurd next
    by_before o (Some p) next = let line = next.1 in omega (arith, line)

    by_found : (o : Origin) (found : Option Request) → IsSomeAnd found (IsNextRow r.author o) → 1 ≤ o.line
    by_found o None next = absurd next
    by_found o (Some p) next = by_before o p.origin next.stack

    by_origin : (origin : Option Origin) → IfSome origin (IsGoodOrigin before r.author) → IfSome origin (λ (o : Origin). 1 ≤ o.line)
    by_origin None good = tt
    by_origin (Some o) good =
        elim good.line [
          | inl first ↦ let line = first.0 in omega (arith, line)
          | inr next ↦ by_found o (request_in before (length before)) next
        ]

found_so : {X : Type 0} (P : X → Type 0) (xs : List X) (i : ℕ) (x : X) → AllByRecursion P xs → slice_get xs i ≡ Some x → P x
found_so P [] i x all found = cc
found_so P (y ∷ xs) zero x all found = let same : y ≡ x = cc in subst P same all.0
found_so P (y ∷ xs) (suc i) x all found = found_so P xs i x all.1 found

request_so : (P : Request → Type 0) (requests : List Request) (n : ℕ) (r : Request) → AllByRecursion P requests → request_in requests n ≡ Some r → P r
request_so P requests n r all found = by_zero (n == 0) found
  where
    by_zero : (t : Bool) → (if t then None else slice_get requests (n - 1)) ≡ Some r → P r
    by_zero true e = cc
    by_zero false e = found_so P requests (n - 1) r all e

-- a row on line 1 is of a stack that no request before it is of
first_new : (before : List Request) (author : List ℕ) (o : Origin) → AllByRecursion IsLined before → IsGoodOrigin before author o → o.line ≡ 1 → has_stack o.stack before ≡ false
first_new before author o all good first =
    elim good.line [
      | inl new ↦ new.1
      | inr next ↦ absurd (by_found (request_in before (length before)) refl next)
    ]
  where
    by_before : (origin : Option Origin) → IfSome origin (λ (p : Origin). 1 ≤ p.line) → IsSomeAnd origin (λ (p : Origin). (p.stack ≡ o.stack) × (o.line ≡ p.line + 1)) → ⊥
    by_before None some next = next
    by_before (Some p) some next = let line = next.1 in omega (arith, line, first, some)

    by_found : (found : Option Request) → request_in before (length before) ≡ found → IsSomeAnd found (IsNextRow author o) → ⊥
    by_found None e next = next
    by_found (Some p) e next = by_before p.origin (request_so IsLined before (length before) p all e) next.stack

-- the last of some requests is no row of a stack
abbrev EndsOther : List ℕ → List Request → Type 0
EndsOther name before = IfSome (request_in before (length before)) (λ (r : Request). is_in_stack name r ≡ false)

ends_with : (name : List ℕ) (before : List Request) (r : Request) → is_in_stack name r ≡ false → EndsOther name (before ++ r ∷ [])
ends_with name before r other =
    let found : request_in (before ++ r ∷ []) (length (before ++ r ∷ [])) ≡ Some r = ap (request_in (before ++ r ∷ [])) (length-append before (r ∷ [])) ∙ request_in-next before r in
    subst (λ f. IfSome f (λ (x : Request). is_in_stack name x ≡ false)) (sym found) other

stack_more : (name : List ℕ) (before : List Request) (r : Request) → has_stack name before ≡ true → has_stack name (before ++ r ∷ []) ≡ true
stack_more name before r there = list_any-append (is_in_stack name) before (r ∷ []) ∙ rw there refl

stack_begun : (name : List ℕ) (before : List Request) (r : Request) → is_in_stack name r ≡ true → has_stack name (before ++ r ∷ []) ≡ true
stack_begun name before r is = list_any-append (is_in_stack name) before (r ∷ []) ∙ rw is (by_front (has_stack name before))
  where
    by_front : (t : Bool) → (t || (true || false)) ≡ true
    by_front true = refl
    by_front false = refl

-- once a row is followed by another request, no row of its stack comes any more
other_next : (name : List ℕ) (before : List Request) (r : Request) → IsGoodRequest before r → has_stack name before ≡ true → EndsOther name before → is_in_stack name r ≡ false
other_next name before r good there ends = by_origin r.origin good.origin
  where
    by_before : (o : Origin) (origin : Option Origin) → is_same_name o.stack name ≡ true → is_row_of name origin ≡ false → IsSomeAnd origin (λ (p : Origin). (p.stack ≡ o.stack) × (o.line ≡ p.line + 1)) → ⊥
    by_before o None is other next = next
    by_before o (Some p) is other next = false≢true (sym other ∙ ap (λ n. is_same_name n name) next.0 ∙ is)

    by_found : (o : Origin) (found : Option Request) → is_same_name o.stack name ≡ true → IfSome found (λ (p : Request). is_in_stack name p ≡ false) → IsSomeAnd found (IsNextRow r.author o) → ⊥
    by_found o None is other next = next
    by_found o (Some p) is other next = by_before o p.origin is other next.stack

    by_name : (o : Origin) (t : Bool) → is_same_name o.stack name ≡ t → IsGoodOrigin before r.author o → t ≡ false
    by_name o false is good = refl
    by_name o true is good =
        elim good.line [
          | inl first ↦ absurd (false≢true (sym (subst (λ n. has_stack n before ≡ false) (same_name o.stack name is) first.1) ∙ there))
          | inr next ↦ absurd (by_found o (request_in before (length before)) is ends next)
        ]

    by_origin : (origin : Option Origin) → IfSome origin (IsGoodOrigin before r.author) → is_row_of name origin ≡ false
    by_origin None good = refl
    by_origin (Some o) good = by_name o (is_same_name o.stack name) refl good

none_follow : (name : List ℕ) (before rest : List Request) → AllAfter IsGoodRequest before rest → has_stack name before ≡ true → EndsOther name before → has_stack name rest ≡ false
none_follow name before [] all there ends = refl
none_follow name before (r ∷ rest) all there ends =
    let other : is_in_stack name r ≡ false = other_next name before r all.0 there ends in
    or_from (is_in_stack name r) (has_stack name rest) other (none_follow name (before ++ r ∷ []) rest all.1 (stack_more name before r there) (ends_with name before r other))

-- ---- those of them that pass a test

module _ (name : List ℕ) (test : Request → Bool) where
  abbrev passes : Request → Bool
  passes r = is_in_stack name r && test r

  none_counted : (xs : List Request) → has_stack name xs ≡ false → count_by passes xs ≡ 0
  none_counted [] none = refl
  none_counted (x ∷ xs) none =
      let parts = or_parts (is_in_stack name x) (has_stack name xs) none in
      let rest = none_counted xs parts.1 in
      let passed : passes x ≡ false = ap (λ t. t && test x) parts.0 in
      sum_by-cons (λ r. cond (passes r) 1 0) x xs ∙ ap (λ t. cond t 1 0 + count_by passes xs) passed ∙ omega (arith, rest)

  row_counted : (r : Request) (rest : List Request) → is_in_stack name r ≡ true → count_by test (take_while (is_in_stack name) rest) ≡ count_by passes rest
      → count_by test (take_while (is_in_stack name) (r ∷ rest)) ≡ count_by passes (r ∷ rest)
  row_counted r rest is same =
      let first : take_while (is_in_stack name) (r ∷ rest) ≡ r ∷ take_while (is_in_stack name) rest =
      take_while-cons (is_in_stack name) r rest ∙ ap (λ t. cond t (r ∷ take_while (is_in_stack name) rest) []) is in
      let passed : test r ≡ passes r = sym (ap (λ t. t && test r) is) in
      ap (count_by test) first
      ∙ sum_by-cons (λ x. cond (test x) 1 0) r (take_while (is_in_stack name) rest)
      ∙ ap (λ n. cond (test r) 1 0 + n) same
      ∙ ap (λ t. cond t 1 0 + count_by passes rest) passed
      ∙ sym (sum_by-cons (λ x. cond (passes x) 1 0) r rest)

  rows_follow : (before rest : List Request) → AllAfter IsGoodRequest before rest → has_stack name before ≡ true → count_by test (take_while (is_in_stack name) rest) ≡ count_by passes rest
  rows_follow before [] all there = refl
  rows_follow before (r ∷ rest) all there = by_name (is_in_stack name r) refl (rows_follow (before ++ r ∷ []) rest all.1 (stack_more name before r there))
    where
      by_name : (t : Bool) → is_in_stack name r ≡ t → count_by test (take_while (is_in_stack name) rest) ≡ count_by passes rest → count_by test (take_while (is_in_stack name) (r ∷ rest)) ≡ count_by passes (r ∷ rest)
      by_name true is others = row_counted r rest is others
      by_name false is others =
          let ended : take_while (is_in_stack name) (r ∷ rest) ≡ [] = take_while-cons (is_in_stack name) r rest ∙ ap (λ t. cond t (r ∷ take_while (is_in_stack name) rest) []) is in
          let none : has_stack name (r ∷ rest) ≡ false = or_from (is_in_stack name r) (has_stack name rest) is (none_follow name (before ++ r ∷ []) rest all.1 (stack_more name before r there) (ends_with name before r is)) in
          ap (count_by test) ended ∙ sym (none_counted (r ∷ rest) none)

  -- from line 1 on
  rows_from : (before xs : List Request) (i : ℕ) (r : Request) (o : Origin) → AllByRecursion IsLined before → AllAfter IsGoodRequest before xs → slice_get xs i ≡ Some r
      → r.origin ≡ Some o → o.line ≡ 1 → o.stack ≡ name → (has_stack name before ≡ false) × (count_by test (take_while (is_in_stack name) (drop i xs)) ≡ count_by passes xs)
  rows_from before [] i r o lines all found from first named = cc
  rows_from before (x ∷ xs) zero r o lines all found from first named = (
    subst (λ n. has_stack n before ≡ false) named (first_new before x.author o lines good first),
    row_counted x xs is (rows_follow (before ++ x ∷ []) xs all.1 (stack_begun name before x is)),
  )
    where
      same : x ≡ r
      same = cc

      origin : x.origin ≡ Some o
      origin = ap (λ (y : Request). y.origin) same ∙ from

      good : IsGoodOrigin before x.author o
      good = subst (λ f. IfSome f (IsGoodOrigin before x.author)) origin all.0.origin

      is : is_in_stack name x ≡ true
      is = ap (is_row_of name) origin ∙ ap (λ n. is_same_name n name) named ∙ name_itself name
  rows_from before (x ∷ xs) (suc i) r o lines all found from first named =
      let later = rows_from (before ++ x ∷ []) xs i r o (each_appended IsLined before x lines (lined before x all.0)) all.1 found from first named in
      let front = or_parts (has_stack name before) (is_in_stack name x || false) (sym (list_any-append (is_in_stack name) before (x ∷ [])) ∙ later.0) in
      let other = or_parts (is_in_stack name x) false front.1 in
      let passed : passes x ≡ false = ap (λ t. t && test x) other.0 in
      let skipped : count_by passes (x ∷ xs) ≡ count_by passes xs = sum_by-cons (λ y. cond (passes y) 1 0) x xs ∙ ap (λ t. cond t 1 0 + count_by passes xs) passed ∙ omega arith in
      (front.0, later.1 ∙ sym skipped)

  pub rows_counted : (requests : List Request) (n : ℕ) → AllAfter IsGoodRequest [] requests → IsSomeAnd (request_in requests n) (BeginsStack name)
      → count_by test (take_while (is_in_stack name) (drop (n - 1) requests)) ≡ count_by passes requests
  rows_counted requests n all begins = by_zero (n == 0) begins
    where
      by_origin : (r : Request) (origin : Option Origin) → slice_get requests (n - 1) ≡ Some r → r.origin ≡ origin → IsSomeAnd origin (λ (o : Origin). (o.line ≡ 1) × (o.stack ≡ name))
          → count_by test (take_while (is_in_stack name) (drop (n - 1) requests)) ≡ count_by passes requests
      by_origin r None found from begun = absurd begun
      by_origin r (Some o) found from begun = (rows_from [] requests (n - 1) r o tt all found from begun.0 begun.1).1

      by_found : (found : Option Request) → slice_get requests (n - 1) ≡ found → IsSomeAnd found (BeginsStack name)
          → count_by test (take_while (is_in_stack name) (drop (n - 1) requests)) ≡ count_by passes requests
      by_found None e begun = absurd begun
      by_found (Some r) e begun = by_origin r r.origin e refl begun

      by_zero : (t : Bool) → IsSomeAnd (if t then None else slice_get requests (n - 1)) (BeginsStack name)
          → count_by test (take_while (is_in_stack name) (drop (n - 1) requests)) ≡ count_by passes requests
      by_zero true begun = absurd begun
      by_zero false begun = by_found (slice_get requests (n - 1)) refl begun
