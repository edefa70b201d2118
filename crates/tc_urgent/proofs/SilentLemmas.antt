-- A request that stands where nothing is open, or where none has a line.
use Rattle.std.proofs.Common.{◌≡◌, ◌≢◌, ℕ, ◌+◌, ◌-◌, ◌<◌, ◌==◌, ◌&&◌, Bool, true, false, not, if◌then◌else◌, Option, Some, None, List, [], ◌∷◌, length, inl, inr, refl, sym, ◌∙◌, ap, arith}
use Rattle.std.specs.Prelude.{slice_index_or}
use Rattle.std.specs.List.{slice_get}
use Rattle.std.specs.Option.{option_and_then, option_map}
use Rattle.std.proofs.lemmas.Bool.Decides.{nat_tests}
use Rattle.std.proofs.lemmas.Option.{slice_get_cases}
use Rattle.tc_types.specs.declared.history.places.Place.{Place}
use Rattle.tc_types.specs.declared.history.places.Place.TheVariants.{Entered, Approved, Queued, Sent, Confirmed, Riding, Scheduled, Accepted, Started, Completed, Failed, Doubtful, Withdrawn, Deleted, Closed}
use Rattle.tc_types.specs.declared.requests.Request.{Request}
use Rattle.tc_types.specs.Lawful.{final_places, is_among}
use Rattle.tc_types.specs.Schedule.{is_insert}
use Rattle.tc_book.specs.Book.{Book, place_in, request_at, stands}
use Rattle.tc_book.specs.Good.{IsGoodBook}
use Rattle.tc_book.proofs.ApprovalLemmas.{number_at, numbered}
use Rattle.tc_urgent.specs.declared.kinds.UrgentKind.{UrgentKind}
use Rattle.tc_urgent.specs.declared.lines.UrgentLine.{UrgentLine}
use Rattle.tc_urgent.specs.declared.moves.LastMove.{LastMove}
use Rattle.tc_urgent.specs.Judging.{AreLastMoves, kind_at, kind_of, last_move, open_insert, silent_places, unmoved}
use Rattle.tc_urgent.specs.Lines.{line_as, request_line}

-- a request that is found by a number has it
pub number_is : (book : Book) (n : ℕ) (r : Request) → IsGoodBook book → request_at book n ≡ Some r → r.number ≡ n
number_is book n r good = by (n == 0) refl
  where
    by : (t : Bool) → (n == 0) ≡ t → (if t then None else slice_get book.requests (n - 1)) ≡ Some r → r.number ≡ n
    by true zero is = absurd (let none : Option Request = None in let e : none ≡ Some r = is in cc)
    by false some is =
        let there = number_at 1 (n - 1) book.requests r (numbered [] book.requests good.requests) is in
        let positive : n ≢ 0 = grind (arith, nat_tests, some) in
        omega (arith, there, positive)

-- the last move of one that is found is where its number says
pub last_is : (book : Book) (last : List LastMove) (n : ℕ) (r : Request) → IsGoodBook book → AreLastMoves book.history (length book.requests) last → Some r ≡ request_at book n
    → (r.number - 1 < length last) × (slice_index_or last (r.number - 1) unmoved ≡ last_move book.history r.number)
last_is book last n r good are is = by (n == 0) refl (sym is)
  where
    there : (k : ℕ) → r.number ≡ k + 1 → k < length book.requests → (r.number - 1 < length last) × (slice_index_or last (r.number - 1) unmoved ≡ last_move book.history r.number)
    there k number low =
        let place : r.number - 1 ≡ k = omega (arith, number) in
        (omega (arith, are.all, place, low), ap (λ m. slice_index_or last m unmoved) place ∙ are.each k low ∙ ap (last_move book.history) (sym number))

    by : (t : Bool) → (n == 0) ≡ t → (if t then None else slice_get book.requests (n - 1)) ≡ Some r
        → (r.number - 1 < length last) × (slice_index_or last (r.number - 1) unmoved ≡ last_move book.history r.number)
    by true zero is = absurd (let none : Option Request = None in let e : none ≡ Some r = is in cc)
    by false some is =
        let number : r.number ≡ 1 + (n - 1) = number_at 1 (n - 1) book.requests r (numbered [] book.requests good.requests) is in
        elim (slice_get_cases book.requests (n - 1)).1 [
          | inl (x, low, found, same) ↦ there (n - 1) (omega (arith, number)) low
          | inr (past, gone) ↦ absurd (let none : Option Request = None in let e : none ≡ Some r = sym gone ∙ is in cc)
        ]

-- one that has ended is no open insert
pub no_open_insert : (book : Book) (n : ℕ) → IsGoodBook book → is_among final_places (place_in book n) ≡ true → None ≡ option_and_then (open_insert book) (request_at book n)
no_open_insert book n good ended = by (request_at book n) refl
  where
    by_tests : (insert ends : Bool) (r : Request) → ends ≡ true → None ≡ (if insert && not ends then Some r else None)
    by_tests true true r is = refl
    by_tests false true r is = refl
    by_tests insert false r is = absurd cc

    by : (o : Option Request) → request_at book n ≡ o → None ≡ option_and_then (open_insert book) o
    by None is = refl
    by (Some r) is =
        let same : r.number ≡ n = number_is book n r good is in
        let ends : stands book r.number final_places ≡ true = ap (λ m. is_among final_places (place_in book m)) same ∙ ended in
        by_tests (is_insert r.body.command) (stands book r.number final_places) r ends

-- one at such a place has no line
pub no_line : (book : Book) (opened : ℕ) (scheduled : List ℕ) (n : ℕ) → IsGoodBook book → is_among silent_places (place_in book n) ≡ true
    → None ≡ option_and_then (request_line book opened scheduled) (request_at book n)
no_line book opened scheduled n good ended = by (request_at book n) refl
  where
    by_place : (r : Request) (at : Option Place) → is_among silent_places at ≡ true → None ≡ option_map (line_as book r) (kind_at book opened scheduled r at)
    by_place r None is = absurd cc
    by_place r (Some Completed) is = refl
    by_place r (Some Withdrawn) is = refl
    by_place r (Some Deleted) is = refl
    by_place r (Some Closed) is = refl
    by_place r (Some Entered) is = absurd cc
    by_place r (Some Approved) is = absurd cc
    by_place r (Some Queued) is = absurd cc
    by_place r (Some Sent) is = absurd cc
    by_place r (Some Confirmed) is = absurd cc
    by_place r (Some Riding) is = absurd cc
    by_place r (Some Scheduled) is = absurd cc
    by_place r (Some Accepted) is = absurd cc
    by_place r (Some Started) is = absurd cc
    by_place r (Some Failed) is = absurd cc
    by_place r (Some Doubtful) is = absurd cc

    by : (o : Option Request) → request_at book n ≡ o → None ≡ option_and_then (request_line book opened scheduled) o
    by None is = refl
    by (Some r) is =
        let same : r.number ≡ n = number_is book n r good is in
        by_place r (place_in book r.number) (ap (λ m. is_among silent_places (place_in book m)) same ∙ ended)

-- one with a kind has its line
pub has_line : (book : Book) (opened : ℕ) (scheduled : List ℕ) (n : ℕ) (r : Request) (kind : UrgentKind) (line : UrgentLine) → line ≡ line_as book r kind → Some kind ≡ kind_of book opened scheduled r
    → Some r ≡ request_at book n → Some line ≡ option_and_then (request_line book opened scheduled) (request_at book n)
has_line book opened scheduled n r kind line made is there =
    ap Some made ∙ ap (option_map (line_as book r)) is ∙ ap (option_and_then (request_line book opened scheduled)) there
