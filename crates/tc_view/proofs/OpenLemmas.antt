-- Which requests are open, one line after the other.
use Rattle.std.proofs.Common.{◌≡◌, ◌∙◌, ℕ, zero, suc, ◌+◌, ◌-◌, ◌<◌, ◌≤◌, ◌==◌, Bool, true, false, cond, if◌then◌else◌, Option, Some, None, List, [], ◌∷◌, ◌++◌, length, take, get_or, refl, ap, sym, subst, arith, inl, inr}
use Rattle.std.specs.Prelude.{IfSome, is_some}
use Rattle.std.specs.List.{cons_option, filter, filter_map, AllByRecursion, slice_get}
use Rattle.std.specs.Option.{option_and_then}
use Rattle.std.proofs.lemmas.List.{length-append, length-take, take_more, take_all, take-append-le}
use Rattle.std.proofs.lemmas.List.Elements.{filter_map-append}
use Rattle.std.proofs.lemmas.Option.{slice_get_cases}
use Rattle.tc_types.specs.declared.history.places.Place.{Place}
use Rattle.tc_types.specs.declared.requests.Request.{Request}
use Rattle.tc_types.specs.History.{AllAfter}
use Rattle.tc_book.specs.Book.{Book, request_at, stands}
use Rattle.tc_book.specs.Good.{IsGoodRequest}
use Rattle.tc_book.specs.Waiting.{standing_past}
use Rattle.tc_urgent.specs.declared.lines.UrgentLine.{UrgentLine}
use Rattle.tc_wall.specs.declared.walls.TheConstants.{MOST_OPEN}
use Rattle.tc_view.specs.declared.opens.Open.{Open}
use Rattle.tc_view.specs.Gathered.{IsNumbered, IsOpenOf}
use Rattle.tc_view.specs.Ways.{if_open, is_open, open_in, open_of}

-- ---- one request

pub first_more : {X : Type 0} (m : ℕ) (seen first : List X) (x : X) → first ≡ take m seen → length first < m → first ++ x ∷ [] ≡ take m (seen ++ x ∷ [])
first_more m seen first x is few =
    let size : length first ≡ length (take m seen) = ap length is in
    let cut = length-take m seen in
    let short : length seen < m = grind (arith, size, cut, few) in
    let more = length-append seen (x ∷ []) in
    ap (λ l. l ++ x ∷ []) (is ∙ take_all m seen (omega (arith, short))) ∙ sym (take_all m (seen ++ x ∷ []) (omega (arith, short, more)))

pub first_full : {X : Type 0} (m : ℕ) (seen first : List X) (x : X) → first ≡ take m seen → m ≤ length first → first ≡ take m (seen ++ x ∷ [])
first_full m seen first x is full =
    let size : length first ≡ length (take m seen) = ap length is in
    let cut = length-take m seen in
    let long : m ≤ length seen = grind (arith, size, cut, full) in
    is ∙ sym (take-append-le m seen (x ∷ []) long)

-- ---- each line

-- the next line was looked at
pub looked_more : {A : Type 0} (book : Book) (lines : List UrgentLine) (i : ℕ) (line : UrgentLine) (found : Open A) → i < length lines → line ≡ get_or lines i line
    → IsOpenOf (open_of book (take i lines) ++ cons_option (open_in book line) []) found → IsOpenOf (open_of book (take (i + 1) lines)) found
looked_more {A} book lines i line found low is after =
    let parts : take (i + 1) lines ≡ take i lines ++ line ∷ [] = take_more lines i line low ∙ ap (λ y. take i lines ++ y ∷ []) (sym is) in
    subst (λ l. IsOpenOf l found) (sym (ap (filter_map (open_in book)) parts ∙ filter_map-append (open_in book) (take i lines) (line ∷ []))) after

few_given : {X Y : Type 0} (h : X → Option Y) (xs : List X) → length (filter_map h xs) ≤ length xs
few_given h [] = omega arith
few_given {X} {Y} h (x ∷ xs) = by (h x) (few_given h xs)
  where
    by : (o : Option Y) → length (filter_map h xs) ≤ length xs → length (cons_option o (filter_map h xs)) ≤ length (x ∷ xs)
    by None few = omega (arith, few)
    by (Some y) few = omega (arith, few)

-- no more are open than were looked at
pub few_open : {A : Type 0} (book : Book) (lines : List UrgentLine) (i most : ℕ) (found : Open A) → i < length lines → length lines ≤ most → IsOpenOf (open_of book (take i lines)) found → found.count < most
few_open {A} book lines i most found low few is =
    let given = few_given (open_in book) (take i lines) in
    let taken = length-take i lines in
    let count = is.count in
    grind (arith, given, taken, count, low, few)

-- ---- of all

pub all_taken : {X : Type 0} (P : X → Type 0) (m : ℕ) (xs : List X) → AllByRecursion P xs → AllByRecursion P (take m xs)
all_taken P zero xs all = tt
all_taken P (suc m) [] all = tt
all_taken P (suc m) (x ∷ xs) all = (all.0, all_taken P m xs all.1)

pub all_at : {X : Type 0} (P : X → Type 0) (xs : List X) (k : ℕ) (d : X) → k < length xs → AllByRecursion P xs → P (get_or xs k d)
all_at P [] k d low all = absurd (omega (arith, low))
all_at P (x ∷ xs) zero d low all = all.0
all_at P (x ∷ xs) (suc k) d low all = all_at P xs k d (omega (arith, low)) all.1

-- requests that follow one another have the numbers of these places
numbered_behind : (before xs : List Request) (count : ℕ) → length before + length xs ≤ count → AllAfter IsGoodRequest before xs → AllByRecursion (IsNumbered count) xs
numbered_behind before [] count few all = tt
numbered_behind before (r ∷ rs) count few all =
    let is = all.0.number in
    let more = length-append before (r ∷ []) in
    (record { some = omega (arith, is); within = omega (arith, is, few) }, numbered_behind (before ++ r ∷ []) rs count (omega (arith, few, more)) all.1)

pub all_numbered : (book : Book) → AllAfter IsGoodRequest [] book.requests → AllByRecursion (IsNumbered (length book.requests)) book.requests
all_numbered book good = numbered_behind [] book.requests (length book.requests) (omega arith) good

numbered_at : (book : Book) (n : ℕ) (r : Request) → AllByRecursion (IsNumbered (length book.requests)) book.requests → request_at book n ≡ Some r → IsNumbered (length book.requests) r
numbered_at book n r all = by (n == 0)
  where
    by : (t : Bool) → (if t then None else slice_get book.requests (n - 1)) ≡ Some r → IsNumbered (length book.requests) r
    by true is = absurd (let none : Option Request = None in let e : none ≡ Some r = is in cc)
    by false is = elim (slice_get_cases book.requests (n - 1)).1 [
      | inl (x, low, there, same) ↦
          let some : Some x ≡ Some r = sym there ∙ is in
          let one : x ≡ r = cc in
          subst (IsNumbered (length book.requests)) (same ∙ one) (all_at (IsNumbered (length book.requests)) book.requests (n - 1) x low all)
      | inr (past, gone) ↦ absurd (let none : Option Request = None in let e : none ≡ Some r = sym gone ∙ is in cc)
    ]

-- the request of a line has a number, and is open
good_one : (book : Book) (line : UrgentLine) → AllByRecursion (IsNumbered (length book.requests)) book.requests → IfSome (open_in book line) (λ (r : Request). IsNumbered (length book.requests) r × (is_open book r ≡ true))
good_one book line all = by (is_some line.on_board)
  where
    by_open : (r : Request) (t : Bool) → is_open book r ≡ t → request_at book line.number ≡ Some r → IfSome (if t then Some r else None) (λ (r : Request). IsNumbered (length book.requests) r × (is_open book r ≡ true))
    by_open r true opens is = (numbered_at book line.number r all is, opens)
    by_open r false opens is = tt

    by_request : (o : Option Request) → request_at book line.number ≡ o → IfSome (option_and_then (if_open book) o) (λ (r : Request). IsNumbered (length book.requests) r × (is_open book r ≡ true))
    by_request None is = tt
    by_request (Some r) is = by_open r (is_open book r) refl is

    by : (t : Bool) → IfSome (option_and_then (if_open book) (if t then request_at book line.number else None)) (λ (r : Request). IsNumbered (length book.requests) r × (is_open book r ≡ true))
    by true = by_request (request_at book line.number) refl
    by false = tt

all_good : (book : Book) (lines : List UrgentLine) → AllByRecursion (IsNumbered (length book.requests)) book.requests
    → AllByRecursion (λ (r : Request). IsNumbered (length book.requests) r × (is_open book r ≡ true)) (open_of book lines)
all_good book [] all = tt
all_good book (line ∷ lines) all = by (open_in book line) (good_one book line all) (all_good book lines all)
  where
    by : (o : Option Request) → IfSome o (λ (r : Request). IsNumbered (length book.requests) r × (is_open book r ≡ true))
        → AllByRecursion (λ (r : Request). IsNumbered (length book.requests) r × (is_open book r ≡ true)) (open_of book lines)
        → AllByRecursion (λ (r : Request). IsNumbered (length book.requests) r × (is_open book r ≡ true)) (cons_option o (open_of book lines))
    by None one others = others
    by (Some r) one others = (one, others)

all_firsts : {X : Type 0} (P Q : X → Type 0) (xs : List X) → AllByRecursion (λ x. P x × Q x) xs → AllByRecursion P xs
all_firsts P Q [] all = tt
all_firsts P Q (x ∷ xs) all = (all.0.0, all_firsts P Q xs all.1)

all_seconds : {X : Type 0} (P Q : X → Type 0) (xs : List X) → AllByRecursion (λ x. P x × Q x) xs → AllByRecursion Q xs
all_seconds P Q [] all = tt
all_seconds P Q (x ∷ xs) all = (all.0.1, all_seconds P Q xs all.1)

first_good : {A : Type 0} (book : Book) (lines : List UrgentLine) (found : Open A) → AllAfter IsGoodRequest [] book.requests → IsOpenOf (open_of book lines) found
    → AllByRecursion (λ (r : Request). IsNumbered (length book.requests) r × (is_open book r ≡ true)) found.first.items
first_good {A} book lines found good is = subst (AllByRecursion (λ (r : Request). IsNumbered (length book.requests) r × (is_open book r ≡ true))) (sym is.first)
    (all_taken _ MOST_OPEN (open_of book lines) (all_good book lines (all_numbered book good)))

pub first_numbered : {A : Type 0} (book : Book) (lines : List UrgentLine) (found : Open A) → AllAfter IsGoodRequest [] book.requests → IsOpenOf (open_of book lines) found
    → AllByRecursion (IsNumbered (length book.requests)) found.first.items
first_numbered {A} book lines found good is = all_firsts _ (λ (r : Request). is_open book r ≡ true) found.first.items (first_good book lines found good is)

pub first_open : {A : Type 0} (book : Book) (lines : List UrgentLine) (found : Open A) → AllAfter IsGoodRequest [] book.requests → IsOpenOf (open_of book lines) found
    → AllByRecursion (λ r. is_open book r ≡ true) found.first.items
first_open {A} book lines found good is = all_seconds (IsNumbered (length book.requests)) (λ (r : Request). is_open book r ≡ true) found.first.items (first_good book lines found good is)

-- ---- those at a place

few_passed : {X : Type 0} (p : X → Bool) (xs : List X) → length (filter p xs) ≤ length xs
few_passed p [] = omega arith
few_passed p (x ∷ xs) = by (p x) (few_passed p xs)
  where
    by : (t : Bool) → length (filter p xs) ≤ length xs → length (cond t (x ∷ filter p xs) (filter p xs)) ≤ length (x ∷ xs)
    by true few = omega (arith, few)
    by false few = omega (arith, few)

-- no more stand at a place than there are
pub all_standing : (book : Book) (place : Place) (most : ℕ) → most ≡ length book.requests → take most (standing_past book place 0) ≡ standing_past book place 0
all_standing book place most is = take_all most (standing_past book place 0) (omega (arith, is, few_passed (λ (r : Request). stands book r.number (place ∷ [])) book.requests))
