-- The names of the stacks that were loaded: how many they are, and that a stack is among the requests where its name is among them.
use Rattle.std.proofs.Common.{◌≡◌, ℕ, zero, suc, ◌+◌, ◌-◌, ◌<◌, ◌==◌, Bool, true, false, ◌||◌, cond, if◌then◌else◌, Option, Some, None, List, [], ◌∷◌, ◌++◌, length, inl, inr, refl, sym, ◌∙◌, ap, subst, arith}
use Rattle.std.specs.Prelude.{IfSome, IsSomeAnd, count_by}
use Rattle.std.specs.List.{list_any, cons_option, slice_get}
use Rattle.std.specs.Option.{option_map_or}
use Rattle.std.proofs.lemmas.List.{append-nil, append_assoc}
use Rattle.std.proofs.lemmas.List.Elements.{filter_map-append}
use Rattle.std.proofs.lemmas.List.Folds.{list_any-append}
use Rattle.std.proofs.lemmas.List.Sums.{sum_by-cons}
use Rattle.std.proofs.lemmas.Bool.Decides.{nat_tests}
use Rattle.tc_types.specs.declared.requests.Request.{Request}
use Rattle.tc_types.specs.declared.requests.Origin.{Origin}
use Rattle.tc_types.specs.History.{AllAfter}
use Rattle.tc_types.specs.Names.{is_same_name}
use Rattle.tc_book.specs.Book.{Book, request_in}
use Rattle.tc_book.specs.Good.{IsNextRow, IsGoodOrigin, IsGoodRequest}
use Rattle.tc_book.specs.Loads.{has_all_stacks}
use Rattle.tc_book.specs.Places.{begun_name, stack_names}
use Rattle.tc_book.specs.Stacks.{is_row_of, is_in_stack, has_stack, begins_stack}

-- there are as many as there are requests on line 1 of a stack
pub names_counted : (requests : List Request) → length (stack_names requests) ≡ count_by begins_stack requests
names_counted [] = refl
names_counted (r ∷ rs) =
    by_origin r.origin
    ∙ ap (λ n. cond (begins_stack r) 1 0 + n) (names_counted rs)
    ∙ sym (sum_by-cons (λ (x : Request). cond (begins_stack x) 1 0) r rs)
  where
    by_line : (t : Bool) (name : List ℕ) → length (cons_option (if t then Some name else None) (stack_names rs)) ≡ cond t 1 0 + length (stack_names rs)
    by_line true name = omega arith
    by_line false name = omega arith

    by_origin : (origin : Option Origin) → length (cons_option (begun_name origin) (stack_names rs)) ≡ cond (option_map_or (λ (o : Origin). o.line == 1) origin false) 1 0 + length (stack_names rs)
    by_origin None = omega arith
    by_origin (Some o) = by_line (o.line == 1) o.stack

-- where no test of a load holds there is one stack less than there may be
pub room_for_stack : (book : Book) (passes rows : Bool) → (has_all_stacks book || passes || rows) ≡ false → length (stack_names book.requests) < 1000
room_for_stack book passes rows e = by_all (has_all_stacks book) refl e
  where
    by_all : (t : Bool) → has_all_stacks book ≡ t → (t || passes || rows) ≡ false → length (stack_names book.requests) < 1000
    by_all true is never = cc
    by_all false is none =
        let named = names_counted book.requests in
        let low : count_by begins_stack book.requests < 1000 = grind (arith, nat_tests, is) in
        omega (arith, named, low)

-- one more request
pub names_more : (requests : List Request) (r : Request) → stack_names (requests ++ r ∷ []) ≡ stack_names requests ++ cons_option (begun_name r.origin) []
names_more requests r = filter_map-append (λ (x : Request). begun_name x.origin) requests (r ∷ [])

pub names_entered : (requests : List Request) (r : Request) (names : List (List ℕ)) → names ≡ stack_names requests → names ++ cons_option (begun_name r.origin) [] ≡ stack_names (requests ++ r ∷ [])
names_entered requests r names is = ap (λ l. l ++ cons_option (begun_name r.origin) []) is ∙ sym (names_more requests r)

-- this name is among those of the stacks
abbrev is_named : List ℕ → List Request → Bool
is_named name requests = list_any (λ known. is_same_name known name) (stack_names requests)

-- who is found is among them
found_among : (test : Request → Bool) (xs : List Request) (i : ℕ) (x : Request) → slice_get xs i ≡ Some x → test x ≡ true → list_any test xs ≡ true
found_among test [] i x found is = cc
found_among test (y ∷ xs) zero x found is = let same : y ≡ x = cc in ap (λ t. t || list_any test xs) (ap test same ∙ is)
found_among test (y ∷ xs) (suc i) x found is = ap (λ t. test y || t) (found_among test xs i x found is) ∙ or_true (test y)
  where
    or_true : (a : Bool) → (a || true) ≡ true
    or_true true = refl
    or_true false = refl

-- the stack of a row that goes on with the one before it is among the requests
goes_on_there : (name : List ℕ) (before : List Request) (author : List ℕ) (o : Origin) → IsSomeAnd (request_in before (length before)) (IsNextRow author o) → is_same_name o.stack name ≡ true → has_stack name before ≡ true
goes_on_there name before author o next is = by_found (request_in before (length before)) refl next
  where
    by_zero : (p : Request) (t : Bool) → (if t then None else slice_get before (length before - 1)) ≡ Some p → is_in_stack name p ≡ true → has_stack name before ≡ true
    by_zero p true found there = cc
    by_zero p false found there = found_among (is_in_stack name) before (length before - 1) p found there

    by_before : (origin : Option Origin) → IsSomeAnd origin (λ (x : Origin). (x.stack ≡ o.stack) × (o.line ≡ x.line + 1)) → is_row_of name origin ≡ true
    by_before None goes = absurd goes
    by_before (Some x) goes = ap (λ n. is_same_name n name) goes.0 ∙ is

    by_found : (found : Option Request) → request_in before (length before) ≡ found → IsSomeAnd found (IsNextRow author o) → has_stack name before ≡ true
    by_found None e goes = absurd goes
    by_found (Some p) e goes = by_zero p (length before == 0) e (by_before p.origin goes.stack)

-- so one more request that may follow is of a stack whose name is among them, where it was so of those before it
named_more : (name : List ℕ) (before : List Request) (r : Request) → IsGoodRequest before r → has_stack name before ≡ is_named name before → has_stack name (before ++ r ∷ []) ≡ is_named name (before ++ r ∷ [])
named_more name before r good same =
    list_any-append (is_in_stack name) before (r ∷ [])
    ∙ by_origin r.origin good.origin
    ∙ ap (λ t. t || list_any (λ known. is_same_name known name) (cons_option (begun_name r.origin) [])) same
    ∙ sym (list_any-append (λ known. is_same_name known name) (stack_names before) (cons_option (begun_name r.origin) []))
    ∙ ap (list_any (λ known. is_same_name known name)) (sym (names_more before r))
  where
    by_name : (o : Origin) (t : Bool) → is_same_name o.stack name ≡ t → IsSomeAnd (request_in before (length before)) (IsNextRow r.author o) → (has_stack name before || (t || false)) ≡ (has_stack name before || false)
    by_name o true is next = ap (λ t. t || (true || false)) (goes_on_there name before r.author o next is) ∙ ap (λ t. t || false) (sym (goes_on_there name before r.author o next is))
    by_name o false is next = refl

    by_line : (o : Origin) (t : Bool) → (o.line == 1) ≡ t → IsGoodOrigin before r.author o
        → (has_stack name before || (is_same_name o.stack name || false)) ≡ (has_stack name before || list_any (λ known. is_same_name known name) (cons_option (if t then Some o.stack else None) []))
    by_line o true e row = refl
    by_line o false e row = elim row.line [
      | inl first ↦ let line = first.0 in absurd (grind (arith, nat_tests, line))
      | inr next ↦ by_name o (is_same_name o.stack name) refl next
    ]

    by_origin : (origin : Option Origin) → IfSome origin (IsGoodOrigin before r.author)
        → (has_stack name before || (is_row_of name origin || false)) ≡ (has_stack name before || list_any (λ known. is_same_name known name) (cons_option (begun_name origin) []))
    by_origin None row = refl
    by_origin (Some o) row = by_line o (o.line == 1) refl row

named_after : (name : List ℕ) (before xs : List Request) → AllAfter IsGoodRequest before xs → has_stack name before ≡ is_named name before → has_stack name (before ++ xs) ≡ is_named name (before ++ xs)
named_after name before [] all same = subst (λ l. has_stack name l ≡ is_named name l) (sym (append-nil before)) same
named_after name before (x ∷ xs) all same =
    subst (λ l. has_stack name l ≡ is_named name l) (append_assoc before (x ∷ []) xs)
    (named_after name (before ++ x ∷ []) xs all.1 (named_more name before x all.0 same))

-- a stack is among requests that may follow one another where its name is among those of the stacks
pub stack_named : (name : List ℕ) (requests : List Request) → AllAfter IsGoodRequest [] requests → has_stack name requests ≡ list_any (λ known. is_same_name known name) (stack_names requests)
stack_named name requests all = named_after name [] requests all refl
