-- What holds of the lines.
use Rattle.std.proofs.Common.{◌≡◌, ℕ, ◌+◌, fold, arith, Bool, true, false, ◌&&◌, ◌||◌, if◌then◌else◌, is_none, Option, Some, None, List, [], ◌∷◌, ◌++◌, map, filter, refl, sym, ◌∙◌, ap, subst}
use Rattle.std.specs.Prelude.{IfSome, IsSomeAnd, nat_lt, is_some}
use Rattle.std.specs.List.{cons_option, filter_map}
use Rattle.std.specs.Option.{option_map}
use Rattle.tc_types.specs.declared.history.places.Place.{Place}
use Rattle.tc_types.specs.declared.history.places.Place.TheVariants.{Entered, Approved, Queued, Sent, Confirmed, Riding, Scheduled, Accepted, Started, Completed, Failed, Doubtful, Withdrawn, Deleted, Closed}
use Rattle.tc_types.specs.declared.requests.Request.{Request}
use Rattle.tc_types.specs.Lawful.{is_among}
use Rattle.tc_book.specs.Book.{Book, place_in, stands}
use Rattle.tc_book.specs.Waiting.{is_locked}
use Rattle.tc_urgent.specs.declared.kinds.UrgentKind.{UrgentKind}
use Rattle.tc_urgent.specs.declared.kinds.UrgentKind.TheVariants.{InDoubt, FailedSince, Flying, LostReport, Free, ActivityOf, LockedForever, Locked}
use Rattle.tc_urgent.specs.declared.lines.UrgentLine.{UrgentLine}
use Rattle.tc_urgent.specs.Judging.{insert_of, is_locked_forever, is_scheduled, kind_at, kind_of, kind_approved, kind_unlocked, since}
use Rattle.tc_urgent.specs.Folds.{both, folded, stands_for, takes_in, total, with_next}
use Rattle.tc_urgent.specs.Laws.{AreShownOnce, TellsSo, is_shown, open_places}
use Rattle.tc_urgent.specs.Lines.{line_as, request_line, request_lines}

-- ---- each once

shown_at : Book → ℕ → Request → Option Place → Bool
shown_at book opened r at = is_among open_places at || (is_among (Failed ∷ []) at && nat_lt opened (since book.history r.number))

-- a request has a kind exactly where it is shown
kind_where_shown : (book : Book) (opened : ℕ) (scheduled : List ℕ) (r : Request) (at : Option Place) → is_some (kind_at book opened scheduled r at) ≡ shown_at book opened r at
unfolding shown_at
kind_where_shown book opened scheduled r None = refl
kind_where_shown book opened scheduled r (Some Entered) = refl
kind_where_shown book opened scheduled r (Some Approved) = refl
kind_where_shown book opened scheduled r (Some Queued) = refl
kind_where_shown book opened scheduled r (Some Sent) = refl
kind_where_shown book opened scheduled r (Some Confirmed) = refl
kind_where_shown book opened scheduled r (Some Riding) = refl
kind_where_shown book opened scheduled r (Some Scheduled) = refl
kind_where_shown book opened scheduled r (Some Accepted) = refl
kind_where_shown book opened scheduled r (Some Started) = refl
kind_where_shown book opened scheduled r (Some Completed) = refl
kind_where_shown book opened scheduled r (Some Failed) = by_test (nat_lt opened (since book.history r.number))
  where
    by_test : (t : Bool) → is_some (if t then Some FailedSince else None) ≡ t
    by_test true = refl
    by_test false = refl
kind_where_shown book opened scheduled r (Some Doubtful) = refl
kind_where_shown book opened scheduled r (Some Withdrawn) = refl
kind_where_shown book opened scheduled r (Some Deleted) = refl
kind_where_shown book opened scheduled r (Some Closed) = refl

numbers_of : List UrgentLine → List ℕ
numbers_of lines = map (λ (line : UrgentLine). line.number) lines

each_once : (book : Book) (opened : ℕ) (scheduled : List ℕ) (requests : List Request)
    → map (λ (line : UrgentLine). line.number) (filter_map (request_line book opened scheduled) requests) ≡ map (λ (r : Request). r.number) (filter (is_shown book opened) requests)
unfolding shown_at
each_once book opened scheduled [] = refl
each_once book opened scheduled (r ∷ requests) = by_kind (kind_of book opened scheduled r) (is_shown book opened r) (kind_where_shown book opened scheduled r (place_in book r.number)) (each_once book opened scheduled requests)
  where
    by_kind : (kind : Option UrgentKind) (t : Bool) → is_some kind ≡ t
        → map (λ (line : UrgentLine). line.number) (filter_map (request_line book opened scheduled) requests) ≡ map (λ (x : Request). x.number) (filter (is_shown book opened) requests)
        → map (λ (line : UrgentLine). line.number) (cons_option (option_map (line_as book r) kind) (filter_map (request_line book opened scheduled) requests))
        ≡ map (λ (x : Request). x.number) (if t then r ∷ filter (is_shown book opened) requests else filter (is_shown book opened) requests)
    by_kind None t is rest = rw (← is) rest
    by_kind (Some kind) t is rest = rw (← is) (ap (λ l. r.number ∷ l) rest)

pub shown_once : (book : Book) (opened : ℕ) (scheduled : List ℕ) → AreShownOnce book opened (request_lines book opened scheduled)
shown_once book opened scheduled = each_once book opened scheduled book.requests

-- ---- what is told

approved_told : (book : Book) (r : Request) → stands book r.number (Approved ∷ []) ≡ true → TellsSo book r (kind_approved book r)
approved_told book r there = by_forever (is_locked_forever book r) refl
  where
    by_locked : (locked : Bool) → is_locked book r ≡ locked → is_locked_forever book r ≡ false → is_none (insert_of book r.number) ≡ true → TellsSo book r (if locked then Locked else Free)
    by_locked true is opens none = (is, opens)
    by_locked false is opens none = (there, none, is)

    by_insert : (insert : Option Request) → insert_of book r.number ≡ insert → is_locked_forever book r ≡ false → TellsSo book r (kind_unlocked (is_locked book r) insert)
    by_insert None is opens = by_locked (is_locked book r) refl opens (ap is_none is)
    by_insert (Some i) is opens = subst (λ o. IsSomeAnd o (λ (x : Request). x.number ≡ i.number)) (sym is) refl

    by_forever : (t : Bool) → is_locked_forever book r ≡ t → TellsSo book r (if t then LockedForever else kind_unlocked (is_locked book r) (insert_of book r.number))
    by_forever true is = is
    by_forever false is = by_insert (insert_of book r.number) refl is

place_told : (book : Book) (opened : ℕ) (scheduled : List ℕ) (r : Request) (at : Option Place) → place_in book r.number ≡ at → IfSome (kind_at book opened scheduled r at) (TellsSo book r)
place_told book opened scheduled r (Some Approved) at = approved_told book r (ap (is_among (Approved ∷ [])) at)
place_told book opened scheduled r (Some Doubtful) at = ap (is_among (Doubtful ∷ [])) at
place_told book opened scheduled r (Some Failed) at = by_test (nat_lt opened (since book.history r.number))
  where
    by_test : (t : Bool) → IfSome (if t then Some FailedSince else None) (TellsSo book r)
    by_test true = tt
    by_test false = tt
place_told book opened scheduled r (Some Scheduled) at = by_mirror (is_scheduled scheduled r.number)
  where
    by_mirror : (t : Bool) → TellsSo book r (if t then Flying else LostReport)
    by_mirror true = tt
    by_mirror false = tt
place_told book opened scheduled r other at = tt

pub told_so : (book : Book) (opened : ℕ) (scheduled : List ℕ) (r : Request) → IfSome (kind_of book opened scheduled r) (TellsSo book r)
told_so book opened scheduled r = place_told book opened scheduled r (place_in book r.number) refl

-- ---- what a fold stands for

with_next_total : (lines : List UrgentLine) (next : UrgentLine) → total (with_next lines next) ≡ total lines + stands_for next
with_next_total [] next = omega arith
with_next_total (line ∷ []) next = by_test (takes_in line next)
  where
    by_test : (t : Bool) → total (if t then both line next ∷ [] else line ∷ next ∷ []) ≡ total (line ∷ []) + stands_for next
    by_test true = omega arith
    by_test false = omega arith
with_next_total (line ∷ second ∷ lines) next = let rest = with_next_total (second ∷ lines) next in omega (arith, rest)

fold_total : (done lines : List UrgentLine) → total (fold with_next done lines) ≡ total done + total lines
fold_total done [] = omega arith
fold_total done (line ∷ lines) = let rest = fold_total (with_next done line) lines in let first = with_next_total done line in omega (arith, rest, first)

pub folded_total : (lines : List UrgentLine) → total (folded lines) ≡ total lines
folded_total lines = let all = fold_total [] lines in omega (arith, all)
