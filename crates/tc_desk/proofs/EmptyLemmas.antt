-- A reset looks at all requests in turn. It makes at most one move for each activity that stands in the mirror, and none for one who
-- stands nowhere in it.
use Rattle.std.proofs.Common.{◌≡◌, ℕ, zero, suc, ◌+◌, ◌-◌, ◌<◌, ◌≤◌, ◌==◌, Bool, true, false, if◌then◌else◌, ◌||◌, min, List, [], ◌∷◌, length, take, get_or, fold, refl, sym, ◌∙◌, ap, subst, arith}
use Rattle.std.proofs.lemmas.Bool.Decides.{nat_tests}
use Rattle.std.proofs.Math.Seq.{take-length}
use Rattle.std.specs.List.{list_any}
use Rattle.tc_types.specs.declared.history.places.Place.TheVariants as place
use Rattle.tc_types.specs.declared.history.causes.Cause.TheVariants as cause
use Rattle.tc_types.specs.declared.link.activities.ListedActivity.{ListedActivity}
use Rattle.tc_types.specs.declared.requests.Request.{Request}
use Rattle.tc_board.specs.Mirror.{MirrorState, is_listed_of}
use Rattle.tc_book.specs.declared.stamps.Stamp.{Stamp}
use Rattle.tc_book.specs.Book.{Book, stands, want, moved}
use Rattle.tc_book.specs.Places.{numbers_from}
use Rattle.tc_book.specs.Records.{Kept}
use Rattle.tc_book.proofs.KeptLemmas.{length-numbers}
use Rattle.tc_desk.specs.Effects.{MayHold, OnlyMoves, removed, emptied}
use Rattle.tc_desk.proofs.GoesOnLemmas.{removed-goes_on}
use Rattle.tc_desk.proofs.LoopLemmas.{grown, moved_rows, fold_more, room_in_turn}

-- ---- one request after the other

-- the book after so many requests were looked at
abbrev pub removed_to : Stamp → MirrorState → Book → ℕ → Book
removed_to stamp mirror book k = fold (removed stamp mirror) book (take k (numbers_from 1 book.requests))

-- the number that comes in turn
number_at : {X : Type 0} (j : ℕ) (xs : List X) (k : ℕ) → k < length xs → get_or (numbers_from j xs) k 0 ≡ j + k
number_at j [] k within = absurd (omega (arith, within))
number_at j (x ∷ xs) zero within = omega arith
number_at j (x ∷ xs) (suc k) within =
    let others = number_at (j + 1) xs k (omega (arith, within)) in omega (arith, others)

number_in_turn : (requests : List Request) (n : ℕ) → 1 ≤ n → n < length requests + 1 → get_or (numbers_from 1 requests) (n - 1) 0 ≡ n
number_in_turn requests n first on =
    let at = number_at 1 requests (n - 1) (omega (arith, first, on)) in omega (arith, at, first)

removed_grows : (stamp : Stamp) (mirror : MirrorState) (book : Book) (n : ℕ) → length book.history ≤ length (removed stamp mirror book n).history
removed_grows stamp mirror book n = grown book (removed stamp mirror book n) (removed-goes_on stamp mirror book n)

-- where there is room for all that a reset makes, there is for what it makes of the next request
pub remove_in_turn : (stamp : Stamp) (mirror : MirrorState) (old now : Kept) (n : ℕ) → 1 ≤ n → n < length old.book.requests + 1
    → now.book ≡ removed_to stamp mirror old.book (n - 1) → OnlyMoves old now → MayHold old (emptied stamp mirror old.book) → MayHold now (removed stamp mirror now.book n)
remove_in_turn stamp mirror old now n first on is kept room =
    let as_many = length-numbers 1 old.book.requests in
    let most = kept.rows_kept in
    let within : n - 1 < length (numbers_from 1 old.book.requests) = omega (arith, as_many, first, on) in
    let there = room_in_turn (removed stamp mirror) (removed_grows stamp mirror) (numbers_from 1 old.book.requests) (n - 1) 0 old.book now.book now.most_rows within is (omega (arith, room, most)) in
    subst (λ m. length (removed stamp mirror now.book m).history ≤ now.most_rows) (number_in_turn old.book.requests n first on) there

-- one more was looked at
pub removed_next : (stamp : Stamp) (mirror : MirrorState) (old now : Book) (n : ℕ) → 1 ≤ n → n < length old.requests + 1
    → now ≡ removed_to stamp mirror old (n - 1) → removed stamp mirror now n ≡ removed_to stamp mirror old (n + 1 - 1)
removed_next stamp mirror old now n first on is =
    let as_many = length-numbers 1 old.requests in
    let within : n - 1 < length (numbers_from 1 old.requests) = omega (arith, as_many, first, on) in
    let here : n - 1 + 1 ≡ n + 1 - 1 = omega (arith, first) in
    ap (λ b. removed stamp mirror b n) is
    ∙ ap (removed stamp mirror (removed_to stamp mirror old (n - 1))) (sym (number_in_turn old.requests n first on))
    ∙ sym (fold_more (removed stamp mirror) (numbers_from 1 old.requests) (n - 1) 0 old within)
    ∙ ap (removed_to stamp mirror old) here

-- all of them were looked at
pub removed_all : (stamp : Stamp) (mirror : MirrorState) (book : Book) (k : ℕ) → k ≡ length book.requests → removed_to stamp mirror book k ≡ emptied stamp mirror book
removed_all stamp mirror book k all =
    ap (λ (ns : List ℕ). fold (removed stamp mirror) book ns)
    (ap (λ n. take n (numbers_from 1 book.requests)) (all ∙ sym (length-numbers 1 book.requests)) ∙ take-length (numbers_from 1 book.requests))

-- ---- how many of these numbers pass a test

most : (ℕ → Bool) → List ℕ → ℕ
most test [] = 0
most test (n ∷ ns) = (if test n then 1 else 0) + most test ns

few-one : (t : Bool) → (if t then 1 else 0) ≤ 1
few-one true = omega arith
few-one false = omega arith

most-less : (test : ℕ → Bool) (ns : List ℕ) → most test ns ≤ length ns
unfolding most
most-less test [] = omega arith
most-less test (n ∷ ns) = let others = most-less test ns in let own = few-one (test n) in omega (arith, others, own)

or-one : (a b : Bool) → (if a || b then 1 else 0) ≤ (if a then 1 else 0) + (if b then 1 else 0)
or-one true true = omega arith
or-one true false = omega arith
or-one false true = omega arith
or-one false false = omega arith

most-or : (a b : ℕ → Bool) (ns : List ℕ) → most (λ n. a n || b n) ns ≤ most a ns + most b ns
unfolding most
most-or a b [] = omega arith
most-or a b (n ∷ ns) = let others = most-or a b ns in let own = or-one (a n) (b n) in omega (arith, others, own)

most-none : (ns : List ℕ) → most (λ n. false) ns ≡ 0
unfolding most
most-none [] = refl
most-none (n ∷ ns) = let others = most-none ns in omega (arith, others)

-- a number that is before them all is none of them
before_all : {X : Type 0} (r k : ℕ) (xs : List X) → r < k → most (λ n. r == n) (numbers_from k xs) ≡ 0
unfolding most
before_all r k [] less = refl
before_all r k (x ∷ xs) less =
    let other : (r == k) ≡ false = grind (arith, nat_tests) in
    let others = before_all r (k + 1) xs (omega (arith, less)) in rw (other, others) refl

-- one number stands among them at most once
once : {X : Type 0} (r k : ℕ) (xs : List X) → most (λ n. r == n) (numbers_from k xs) ≤ 1
unfolding most
once r k [] = omega arith
once r k (x ∷ xs) = by_test (once r (k + 1) xs) (r == k) refl
  where
    by_test : most (λ n. r == n) (numbers_from (k + 1) xs) ≤ 1 → (t : Bool) → (r == k) ≡ t → (if r == k then 1 else 0) + most (λ n. r == n) (numbers_from (k + 1) xs) ≤ 1
    by_test others true e =
        let same : r ≡ k = grind (arith, nat_tests) in
        let none = before_all r (k + 1) xs (omega (arith, same)) in rw (e, none) (omega arith)
    by_test others false e = rw e (omega (arith, others))

-- ---- requests that stand in the mirror

abbrev pub is_shown : List ListedActivity → ℕ → Bool
is_shown activities n = list_any (is_listed_of n) activities

shown_few : {X : Type 0} (activities : List ListedActivity) (k : ℕ) (xs : List X) → most (is_shown activities) (numbers_from k xs) ≤ length activities
shown_few [] k xs = let none = most-none (numbers_from k xs) in omega (arith, none)
shown_few (a ∷ activities) k xs =
    let either = most-or (λ n. a.request == n) (is_shown activities) (numbers_from k xs) in
    let first = once a.request k xs in
    let others = shown_few activities k xs in
    omega (arith, either, first, others)

-- ---- how many rows a reset makes

removed_rows : (stamp : Stamp) (mirror : MirrorState) (ns : List ℕ) (book : Book) → length (fold (removed stamp mirror) book ns).history ≤ length book.history + most (is_shown mirror.activities) ns
unfolding most
removed_rows stamp mirror [] book = omega arith
removed_rows stamp mirror (n ∷ ns) book =
    let own = one_row (stands book n (place.Scheduled ∷ [])) (is_shown mirror.activities n) in
    let others = removed_rows stamp mirror ns (removed stamp mirror book n) in
    omega (arith, own, others)
  where
    after : Book
    after = moved stamp book (want n place.Deleted cause.Reset)

    one_row : (t shown : Bool) → length (if shown then (if t then after else book) else book).history ≤ length book.history + (if shown then 1 else 0)
    one_row true true = let longer = moved_rows stamp book n place.Deleted cause.Reset in omega (arith, longer)
    one_row false true = omega arith
    one_row t false = omega arith

-- no more than activities stand in the mirror, nor than requests were entered
pub emptied_rows : (stamp : Stamp) (mirror : MirrorState) (book : Book) (most_requests : ℕ) → length book.requests ≤ most_requests
    → length (emptied stamp mirror book).history ≤ length book.history + min (length mirror.activities) most_requests
emptied_rows stamp mirror book most_requests few =
    let rows = removed_rows stamp mirror (numbers_from 1 book.requests) book in
    let shown = shown_few mirror.activities 1 book.requests in
    let less = most-less (is_shown mirror.activities) (numbers_from 1 book.requests) in
    let as_many = length-numbers 1 book.requests in
    omega (arith, rows, shown, less, as_many, few)
