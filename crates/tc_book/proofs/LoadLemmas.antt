-- The rows of a stack, entered one after the other.
use Rattle.std.proofs.Common.{◌≡◌, ◌≢◌, ℕ, ◌+◌, ◌%◌, ◌<◌, ◌≤◌, ◌==◌, Bool, true, false, not, ◌&&◌, ◌||◌, cond, Some, List, [], ◌∷◌, ◌++◌, length, get_or, take, drop, refl, sym, ◌∙◌, ap, ap₂, subst, arith}
use Rattle.std.specs.Prelude.{count_by}
use Rattle.std.specs.List.{AllByRecursion, list_any, sum_by}
use Rattle.std.proofs.lemmas.List.{length-append, length-take, take_more, drop_more}
use Rattle.std.proofs.lemmas.List.Folds.{list_any-append}
use Rattle.std.proofs.lemmas.List.Sums.{count_by-le-length, sum_by-cons}
use Rattle.std.proofs.lemmas.Bool.Decides.{nat_tests}
use Rattle.tc_types.specs.declared.requests.Identity.{Identity}
use Rattle.tc_types.specs.declared.requests.Request.{Request}
use Rattle.tc_types.specs.History.{place_of, AllAfter}
use Rattle.tc_types.specs.Lawful.{is_among, final_places}
use Rattle.tc_stack.specs.declared.stacks.StackRow.{StackRow}
use Rattle.tc_book.specs.declared.stamps.Stamp.{Stamp}
use Rattle.tc_book.specs.Book.{Book, request_of, next_identity, same_identity, is_identity_in_use, stands}
use Rattle.tc_book.specs.Cargoes.{behind_first, cargo_length}
use Rattle.tc_book.specs.Good.{IsGoodBook, IsGoodRequest}
use Rattle.tc_book.specs.Loads.{entry_from, origin_of, with_row, with_rows, identity_behind, takes_identity_in_use}
use Rattle.tc_book.specs.Places.{count_of}
use Rattle.tc_book.proofs.CarriedLemmas.{cargo_entered, behind_from}
use Rattle.tc_book.proofs.CountLemmas.{count_of-append}
use Rattle.tc_book.proofs.HistoryLemmas.{place_of-snoc}

-- one row more
pub with_rows-more : (stamp : Stamp) (name : List ℕ) (start line : ℕ) (book : Book) (rows : List StackRow) (row : StackRow)
    → with_rows stamp name start line book (rows ++ row ∷ []) ≡ with_row stamp name start (line + length rows) (with_rows stamp name start line book rows) row
with_rows-more stamp name start line book [] row = ap (λ n. with_row stamp name start n book row) (omega arith)
with_rows-more stamp name start line book (x ∷ rows) row =
    with_rows-more stamp name start (line + 1) (with_row stamp name start line book x) rows row
    ∙ ap (λ n. with_row stamp name start n (with_rows stamp name start (line + 1) (with_row stamp name start line book x) rows) row) (omega arith)

-- ---- how many there are

pub rows_requests : (stamp : Stamp) (name : List ℕ) (start line : ℕ) (book : Book) (rows : List StackRow)
    → length (with_rows stamp name start line book rows).requests ≡ length book.requests + length rows
rows_requests stamp name start line book [] = omega arith
rows_requests stamp name start line book (row ∷ rows) =
    let more = rows_requests stamp name start (line + 1) (with_row stamp name start line book row) rows in
    let one = length-append book.requests (request_of stamp book.requests (Some (origin_of name line row)) (entry_from start row.entry) ∷ []) in
    omega (arith, more, one)

pub rows_history : (stamp : Stamp) (name : List ℕ) (start line : ℕ) (book : Book) (rows : List StackRow)
    → length (with_rows stamp name start line book rows).history ≡ length book.history + length rows
rows_history stamp name start line book [] = omega arith
rows_history stamp name start line book (row ∷ rows) =
    let more = rows_history stamp name start (line + 1) (with_row stamp name start line book row) rows in
    let one : length (with_row stamp name start line book row).history ≡ length book.history + 1 = length-append book.history _ in
    omega (arith, more, one)

pub rows_cargo : (stamp : Stamp) (name : List ℕ) (start line : ℕ) (book : Book) (rows : List StackRow)
    → cargo_length (with_rows stamp name start line book rows).requests ≡ cargo_length book.requests + sum_by (λ (row : StackRow). length (behind_first row.entry.command)) rows
rows_cargo stamp name start line book [] = omega arith
rows_cargo stamp name start line book (row ∷ rows) =
    let more = rows_cargo stamp name start (line + 1) (with_row stamp name start line book row) rows in
    let one = cargo_entered book.requests (request_of stamp book.requests (Some (origin_of name line row)) (entry_from start row.entry)) in
    let same = behind_from start row.entry.command in
    let all = sum_by-cons (λ (x : StackRow). length (behind_first x.entry.command)) row rows in
    omega (arith, more, one, same, all)

-- ---- identities

module _ (stamp : Stamp) (name : List ℕ) (start : ℕ) where
  abbrev made_by : ℕ → Book → StackRow → Request
  made_by line book row = request_of stamp book.requests (Some (origin_of name line row)) (entry_from start row.entry)

  abbrev is_of : ℕ → StackRow → Bool
  is_of apid row = row.entry.apid == apid

  -- an application process has had the requests before, and the rows that are of it
  rows_counted : (line : ℕ) (book : Book) (rows : List StackRow) (apid : ℕ) → count_of (with_rows stamp name start line book rows).requests apid ≡ count_of book.requests apid + count_by (is_of apid) rows
  rows_counted line book [] apid = omega arith
  rows_counted line book (row ∷ rows) apid =
      let more = rows_counted (line + 1) (with_row stamp name start line book row) rows apid in
      let one : count_of (with_row stamp name start line book row).requests apid ≡ count_of book.requests apid + cond (row.entry.apid == apid) 1 0 = count_of-append book.requests (made_by line book row) apid in
      let all = sum_by-cons (λ (x : StackRow). cond (is_of apid x) 1 0) row rows in
      omega (arith, more, one, all)

  -- the requests have numbers up to how many they are
  abbrev Low : Book → Type 0
  Low book = AllByRecursion (λ (r : Request). r.number ≤ length book.requests) book.requests

  low_more : (xs : List Request) (k : ℕ) (r : Request) → AllByRecursion (λ (x : Request). x.number ≤ k) xs → r.number ≡ k + 1 → AllByRecursion (λ (x : Request). x.number ≤ k + 1) (xs ++ r ∷ [])
  low_more [] k r all is = (omega (arith, is), tt)
  low_more (x ∷ xs) k r all is = (let least = all.0 in omega (arith, least), low_more xs k r all.1 is)

  low_row : (line : ℕ) (book : Book) (row : StackRow) → Low book → Low (with_row stamp name start line book row)
  low_row line book row low =
      subst (λ n. AllByRecursion (λ (r : Request). r.number ≤ n) (book.requests ++ made_by line book row ∷ [])) (sym (length-append book.requests (made_by line book row ∷ [])))
      (low_more book.requests (length book.requests) (made_by line book row) low refl)

  -- one row more, with another identity, leaves an identity in use or not
  row_use : (line : ℕ) (book : Book) (row : StackRow) (identity : Identity) → Low book → same_identity (next_identity book.requests row.entry.apid) identity ≡ false
      → is_identity_in_use (with_row stamp name start line book row) identity ≡ is_identity_in_use book identity
  row_use line book row identity low other =
      list_any-append (λ (r : Request). same_identity r.body.identity identity && not (stands new r.number final_places)) book.requests (made_by line book row ∷ [])
      ∙ rw other (or_false _)
      ∙ each book.requests low
    where
      new : Book
      new = with_row stamp name start line book row

      or_false : (a : Bool) → (a || false) ≡ a
      or_false true = refl
      or_false false = refl

      each : (xs : List Request) → AllByRecursion (λ (r : Request). r.number ≤ length book.requests) xs
          → list_any (λ (r : Request). same_identity r.body.identity identity && not (stands new r.number final_places)) xs
          ≡ list_any (λ (r : Request). same_identity r.body.identity identity && not (stands book r.number final_places)) xs
      each [] all = refl
      each (x ∷ xs) all =
          let least = all.0 in
          let past : (length book.requests + 1 == x.number) ≡ false = grind (arith, nat_tests, least) in
          let there : place_of new.history x.number ≡ place_of book.history x.number = place_of-snoc book.history _ x.number ∙ rw past refl in
          ap₂ (λ a b. a || b) (ap (λ at. same_identity x.body.identity identity && not (is_among final_places at)) there) (each xs all.1)

  -- the rows that are entered before one have other identities
  rows_use : (line : ℕ) (book : Book) (rows : List StackRow) (identity : Identity) → Low book → length rows ≤ 200
      → identity.count ≡ (count_of book.requests identity.apid + count_by (is_of identity.apid) rows) % 16384
      → is_identity_in_use (with_rows stamp name start line book rows) identity ≡ is_identity_in_use book identity
  rows_use line book [] identity low few is = refl
  rows_use line book (row ∷ rows) identity low few is =
      let next : Book = with_row stamp name start line book row in
      let one : count_of next.requests identity.apid ≡ count_of book.requests identity.apid + cond (row.entry.apid == identity.apid) 1 0 = count_of-append book.requests (made_by line book row) identity.apid in
      let all = sum_by-cons (λ (x : StackRow). cond (is_of identity.apid x) 1 0) row rows in
      let later : count_of next.requests identity.apid + count_by (is_of identity.apid) rows ≡ count_of book.requests identity.apid + count_by (is_of identity.apid) (row ∷ rows) = omega (arith, one, all) in
      rows_use (line + 1) next rows identity (low_row line book row low) (omega (arith, few)) (is ∙ ap (λ n. n % 16384) (sym later))
      ∙ row_use line book row identity low (by_apid (row.entry.apid == identity.apid) refl (is ∙ ap (λ n. (count_of book.requests identity.apid + n) % 16384) all))
    where
      by_apid : (t : Bool) → (row.entry.apid == identity.apid) ≡ t → identity.count ≡ (count_of book.requests identity.apid + (cond t 1 0 + count_by (is_of identity.apid) rows)) % 16384
          → same_identity (next_identity book.requests row.entry.apid) identity ≡ false
      by_apid false e count = rw e refl
      by_apid true e count =
          let same : row.entry.apid ≡ identity.apid = grind (arith, nat_tests) in
          let most = count_by-le-length (is_of identity.apid) rows in
          let apart : (count_of book.requests row.entry.apid % 16384 == identity.count) ≡ false =
          rw (same, count) (let other : count_of book.requests identity.apid % 16384 ≢ (count_of book.requests identity.apid + (1 + count_by (is_of identity.apid) rows)) % 16384 = λ same_count. omega (arith, same_count, most, few) in grind (arith, nat_tests, other)) in
          rw (e, apart) refl

  -- the identity of the next row is in use, after these rows as before them
  next_use : (line : ℕ) (book : Book) (rows : List StackRow) (apid : ℕ) → Low book → length rows ≤ 200
      → is_identity_in_use (with_rows stamp name start line book rows) (next_identity (with_rows stamp name start line book rows).requests apid) ≡ is_identity_in_use book (identity_behind book.requests rows apid)
  next_use line book rows apid low few =
      ap (λ n. is_identity_in_use (with_rows stamp name start line book rows) (let i : Identity = record { apid = apid; count = n % 16384 } in i)) (rows_counted line book rows apid)
      ∙ rows_use line book rows (identity_behind book.requests rows apid) low few refl

-- the requests of a good book have numbers up to how many they are
pub good_low : (before xs : List Request) (n : ℕ) → AllAfter IsGoodRequest before xs → length before + length xs ≤ n → AllByRecursion (λ (r : Request). r.number ≤ n) xs
good_low before [] n all most = tt
good_low before (x ∷ xs) n all most =
    let number : x.number ≡ length before + 1 = all.0.number in
    let longer = length-append before (x ∷ []) in
    (omega (arith, number, most), good_low (before ++ x ∷ []) xs n all.1 (omega (arith, longer, most)))

-- one row more of a list
pub next_rows : (stamp : Stamp) (name : List ℕ) (start : ℕ) (book : Book) (rows : List StackRow) (k : ℕ) (row : StackRow) → k < length rows → row ≡ get_or rows k row
    → with_rows stamp name start 1 book (take (k + 1) rows) ≡ with_row stamp name start (k + 1) (with_rows stamp name start 1 book (take k rows)) row
next_rows stamp name start book rows k row low is =
    ap (with_rows stamp name start 1 book) (take_more rows k row low ∙ ap (λ r. take k rows ++ r ∷ []) (sym is))
    ∙ with_rows-more stamp name start 1 book (take k rows) row
    ∙ ap (λ n. with_row stamp name start n (with_rows stamp name start 1 book (take k rows)) row) (omega (arith, taken))
  where
    taken : length (take k rows) ≡ k
    taken = let len = length-take k rows in grind (arith, len, low)

-- whether one of the rows from this one on gets an identity in use: this one does, or one of the others
takes_next : (stamp : Stamp) (name : List ℕ) (book : Book) (rows : List StackRow) (k : ℕ) (row : StackRow) → IsGoodBook book → length rows ≤ 200 → k < length rows → row ≡ get_or rows k row
    → takes_identity_in_use stamp name (length book.requests + 1) (1 + k) (with_rows stamp name (length book.requests + 1) 1 book (take k rows)) (drop k rows)
    ≡ (is_identity_in_use book (identity_behind book.requests (take k rows) row.entry.apid)
    || takes_identity_in_use stamp name (length book.requests + 1) (1 + (k + 1)) (with_rows stamp name (length book.requests + 1) 1 book (take (k + 1) rows)) (drop (k + 1) rows))
takes_next stamp name book rows k row good few low is =
    ap (takes_identity_in_use stamp name start (1 + k) before) (drop_more rows k row low ∙ ap (λ r. r ∷ drop (k + 1) rows) (sym is))
    ∙ ap₂ (λ a b. a || b)
    (next_use stamp name start 1 book (take k rows) row.entry.apid (good_low [] book.requests (length book.requests) good.requests (omega arith)) short)
    (ap₂ (λ n b. takes_identity_in_use stamp name start n b (drop (k + 1) rows)) (omega arith) (sym after))
  where
    start : ℕ
    start = length book.requests + 1

    before : Book
    before = with_rows stamp name (length book.requests + 1) 1 book (take k rows)

    taken : length (take k rows) ≡ k
    taken = let len = length-take k rows in grind (arith, len, low)

    short : length (take k rows) ≤ 200
    short = omega (arith, taken, few, low)

    after : with_rows stamp name (length book.requests + 1) 1 book (take (k + 1) rows) ≡ with_row stamp name (length book.requests + 1) (1 + k) before row
    after = next_rows stamp name (length book.requests + 1) book rows k row low is ∙ ap (λ n. with_row stamp name (length book.requests + 1) n before row) (omega arith)

-- so where it does
pub takes_true : (stamp : Stamp) (name : List ℕ) (book : Book) (rows : List StackRow) (k : ℕ) (row : StackRow) → IsGoodBook book → length rows ≤ 200 → k < length rows → row ≡ get_or rows k row
    → is_identity_in_use book (identity_behind book.requests (take k rows) row.entry.apid) ≡ true
    → takes_identity_in_use stamp name (length book.requests + 1) (1 + k) (with_rows stamp name (length book.requests + 1) 1 book (take k rows)) (drop k rows) ≡ true
takes_true stamp name book rows k row good few low is used =
    takes_next stamp name book rows k row good few low is
    ∙ ap (λ t. t || takes_identity_in_use stamp name (length book.requests + 1) (1 + (k + 1)) (with_rows stamp name (length book.requests + 1) 1 book (take (k + 1) rows)) (drop (k + 1) rows)) used

-- and where it does not
pub takes_false : (stamp : Stamp) (name : List ℕ) (book : Book) (rows : List StackRow) (k : ℕ) (row : StackRow) → IsGoodBook book → length rows ≤ 200 → k < length rows → row ≡ get_or rows k row
    → is_identity_in_use book (identity_behind book.requests (take k rows) row.entry.apid) ≡ false
    → takes_identity_in_use stamp name (length book.requests + 1) (1 + k) (with_rows stamp name (length book.requests + 1) 1 book (take k rows)) (drop k rows)
    ≡ takes_identity_in_use stamp name (length book.requests + 1) (1 + (k + 1)) (with_rows stamp name (length book.requests + 1) 1 book (take (k + 1) rows)) (drop (k + 1) rows)
takes_false stamp name book rows k row good few low is unused =
    takes_next stamp name book rows k row good few low is
    ∙ ap (λ t. t || takes_identity_in_use stamp name (length book.requests + 1) (1 + (k + 1)) (with_rows stamp name (length book.requests + 1) 1 book (take (k + 1) rows)) (drop (k + 1) rows)) unused
