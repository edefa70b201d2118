-- Each row of a stack that is approved goes to Approved.
use Rattle.std.proofs.Common.{◌≡◌, ℕ, ◌+◌, ◌-◌, ◌<◌, ◌≤◌, ◌==◌, Bool, true, false, cond, if◌then◌else◌, Some, List, [], ◌∷◌, ◌++◌, length, map, filter, fold, take, get_or, refl, sym, ◌∙◌, ap, subst, Vec, arith}
use Rattle.std.specs.Prelude.{count_by}
use Rattle.std.proofs.lemmas.List.{map-append, length-append, take_more}
use Rattle.std.proofs.lemmas.List.Elements.{filter-append}
use Rattle.std.proofs.lemmas.List.Sums.{fold-append, count_by_more_yes, count_by_more_no, sum_by-take-le}
use Rattle.std.proofs.lemmas.Option.{slice_get_read}
use Rattle.std.proofs.lemmas.Bool.Decides.{nat_tests}
use Rattle.tc_types.specs.declared.history.places.Place.TheVariants.{Entered, Approved}
use Rattle.tc_types.specs.declared.history.causes.Cause.TheVariants as cause
use Rattle.tc_types.specs.declared.history.moves.Move.{Move}
use Rattle.tc_types.specs.declared.requests.Request.{Request}
use Rattle.tc_types.specs.declared.tables.rows.Row.{Row}
use Rattle.tc_types.specs.History.{AllAfter}
use Rattle.tc_book.specs.declared.stamps.Stamp.{Stamp}
use Rattle.tc_book.specs.Acts.{row_approved, rows_approved}
use Rattle.tc_book.specs.Batch.{HasRoomFor, HoldsRoom, batch_rows, log_length}
use Rattle.tc_book.specs.Cargoes.{cargo_length}
use Rattle.tc_book.specs.Book.{Book, Want, request_in, stands, moved, want, with_approval}
use Rattle.tc_book.specs.Good.{IsGoodRequest}
use Rattle.tc_book.specs.Records.{Kept}
use Rattle.tc_book.specs.Stacks.{is_in_stack, numbers_in_stack, is_stack_approved, with_stack_approval}
use Rattle.tc_book.proofs.GoodLemmas.{numbers_known}

-- one request more, which may be a row of the stack
pub numbers_more : (name : List ℕ) (requests : List Request) (k : ℕ) (row : Request) → k < length requests → row ≡ get_or requests k row
    → numbers_in_stack name (take (k + 1) requests) ≡ numbers_in_stack name (take k requests) ++ (if is_in_stack name row then row.number ∷ [] else [])
numbers_more name requests k row low is =
    ap (numbers_in_stack name) (take_more requests k row low ∙ ap (λ x. take k requests ++ x ∷ []) (sym is))
    ∙ ap (map (λ (r : Request). r.number)) (filter-append (is_in_stack name) (take k requests) (row ∷ []))
    ∙ map-append (λ (r : Request). r.number) (filter (is_in_stack name) (take k requests)) (filter (is_in_stack name) (row ∷ []))
    ∙ by_test (is_in_stack name row)
  where
    by_test : (t : Bool) → numbers_in_stack name (take k requests) ++ map (λ (r : Request). r.number) (cond t (row ∷ []) []) ≡ numbers_in_stack name (take k requests) ++ (if t then row.number ∷ [] else [])
    by_test true = refl
    by_test false = refl

pub rows_more : (stamp : Stamp) (name : List ℕ) (requests : List Request) (book : Book) (k : ℕ) (row : Request) → k < length requests → row ≡ get_or requests k row
    → (if is_in_stack name row then row_approved stamp (fold (row_approved stamp) book (numbers_in_stack name (take k requests))) row.number else fold (row_approved stamp) book (numbers_in_stack name (take k requests)))
    ≡ fold (row_approved stamp) book (numbers_in_stack name (take (k + 1) requests))
rows_more stamp name requests book k row low is =
    by_test (is_in_stack name row)
    ∙ sym (fold-append (row_approved stamp) book (numbers_in_stack name (take k requests)) (if is_in_stack name row then row.number ∷ [] else []))
    ∙ ap (fold (row_approved stamp) book) (sym (numbers_more name requests k row low is))
  where
    so_far : Book
    so_far = fold (row_approved stamp) book (numbers_in_stack name (take k requests))

    by_test : (t : Bool) → (if t then row_approved stamp so_far row.number else so_far) ≡ fold (row_approved stamp) so_far (if t then row.number ∷ [] else [])
    by_test true = refl
    by_test false = refl

-- a row that goes to Approved leaves the requests and who approved
pub row_requests : (stamp : Stamp) (book : Book) (n : ℕ) (t : Bool) → (if t then row_approved stamp book n else book).requests ≡ book.requests
row_requests stamp book n false = refl
row_requests stamp book n true = by_place (stands book n (Entered ∷ []))
  where
    by_place : (u : Bool) → (if u then moved stamp book (want n Approved cause.Approve) else book).requests ≡ book.requests
    by_place true = refl
    by_place false = refl

pub row_stays_approved : (stamp : Stamp) (book : Book) (n : ℕ) (t : Bool) (name : List ℕ) → is_stack_approved book name ≡ true → is_stack_approved (if t then row_approved stamp book n else book) name ≡ true
row_stays_approved stamp book n false name is = is
row_stays_approved stamp book n true name is = by_place (stands book n (Entered ∷ []))
  where
    by_place : (u : Bool) → is_stack_approved (if u then moved stamp book (want n Approved cause.Approve) else book) name ≡ true
    by_place true = is
    by_place false = is

-- how many rows there are so far
pub count_more : (name : List ℕ) (requests : List Request) (k : ℕ) (row : Request) → k < length requests → row ≡ get_or requests k row
    → count_by (is_in_stack name) (take (k + 1) requests) ≡ count_by (is_in_stack name) (take k requests) + (if is_in_stack name row then 1 else 0)
count_more name requests k row low is = by_test (is_in_stack name row) refl
  where
    by_test : (t : Bool) → is_in_stack name row ≡ t → count_by (is_in_stack name) (take (k + 1) requests) ≡ count_by (is_in_stack name) (take k requests) + (if t then 1 else 0)
    by_test true e = count_by_more_yes (is_in_stack name) requests k row low (ap (is_in_stack name) (sym is) ∙ e)
    by_test false e = count_by_more_no (is_in_stack name) requests k row low (ap (is_in_stack name) (sym is) ∙ e) ∙ omega arith

pub count_front : (name : List ℕ) (requests : List Request) (k : ℕ) → count_by (is_in_stack name) (take k requests) ≤ count_by (is_in_stack name) requests
count_front name requests k = sum_by-take-le (λ r. cond (is_in_stack name r) 1 0) requests k

-- a request at its place is found by its number
found_there : (requests : List Request) (k : ℕ) (row : Request) → AllAfter IsGoodRequest [] requests → k < length requests → row ≡ get_or requests k row → request_in requests row.number ≡ Some row
found_there requests k row all low is =
    let here = slice_get_read requests (length requests) k row refl low is in
    let number = numbers_known [] requests k row all here in
    let some : (row.number == 0) ≡ false = grind (arith, nat_tests, number) in
    let place : row.number - 1 ≡ k = omega (arith, number) in
    rw (some, place) here

-- A request that a loop reads, where the requests are those from before it: it is the one at its place, is found by its number, and has
-- the number of its place.
pub read_there : (inside now first old : Kept) (k all : ℕ) (row : Request) → inside ≡ now → now.book.requests ≡ old.book.requests → first ≡ old → all ≡ length first.book.requests → k < all
    → AllAfter IsGoodRequest [] inside.book.requests → row ≡ get_or inside.book.requests k row
    → (k < length old.book.requests) × (row ≡ get_or old.book.requests k row) × (request_in now.book.requests row.number ≡ Some row) × (row.number ≡ k + 1)
read_there inside now first old k all row is same began count low good read =
    let items : inside.book.requests ≡ old.book.requests = ap (λ (kept : Kept). kept.book.requests) is ∙ same in
    let size : all ≡ length old.book.requests = count ∙ ap (λ (kept : Kept). length kept.book.requests) began in
    let within : k < length old.book.requests = omega (arith, size, low) in
    let there : k < length inside.book.requests = subst (λ (l : List Request). k < length l) (sym items) within in
    let number = numbers_known [] inside.book.requests k row good (slice_get_read inside.book.requests (length inside.book.requests) k row refl there read) in (
      within,
      read ∙ ap (λ (l : List Request). get_or l k row) items,
      subst (λ (kept : Kept). request_in kept.book.requests row.number ≡ Some row) is (found_there inside.book.requests k row good there read),
      omega (arith, number),
    )

-- ---- room

-- rows that go to Approved leave all but the history
rows_leave : (stamp : Stamp) (ns : List ℕ) (book : Book) → let new : Book = fold (row_approved stamp) book ns in (new.requests ≡ book.requests) × (new.approvals ≡ book.approvals) × (new.stack_approvals ≡ book.stack_approvals) × (new.log ≡ book.log)
rows_leave stamp [] book = (refl, refl, refl, refl)
rows_leave stamp (n ∷ ns) book =
    let one = by_place (stands book n (Entered ∷ [])) in
    let others = rows_leave stamp ns (row_approved stamp book n) in
    (others.0 ∙ one.0, others.1 ∙ one.1, others.2 ∙ one.2, others.3 ∙ one.3)
  where
    by_place : (u : Bool) → let new : Book = (if u then moved stamp book (want n Approved cause.Approve) else book) in (new.requests ≡ book.requests) × (new.approvals ≡ book.approvals) × (new.stack_approvals ≡ book.stack_approvals) × (new.log ≡ book.log)
    by_place true = (refl, refl, refl, refl)
    by_place false = (refl, refl, refl, refl)

-- room for so many moves, and for no more than one approval of a request and one of a stack
moves-room : {A B : Type 0} (book new : Book) (rows : ℕ) (moves : Vec Move A) (batch : Vec Row B) → HasRoomFor rows moves → HasRoomFor (batch_rows 0 rows + 0 + 0) batch
    → new.requests ≡ book.requests → length new.history ≤ length book.history + rows → length new.approvals ≤ length book.approvals + 1 → length new.stack_approvals ≤ length book.stack_approvals + 1
    → log_length new.log ≡ log_length book.log → HoldsRoom book new moves batch
moves-room book new rows moves batch for_moves for_batch same history approvals stack_approvals log =
    let requests = ap length same in
    let cargo = ap cargo_length same in
    let m = for_moves.1 in
    let b = for_batch.1 in
    record {
      moves_empty = for_moves.0;
      moves_room = omega (arith, m, history);
      batch_empty = for_batch.0;
      approvals = approvals;
      stack_approvals = stack_approvals;
      batch_room = omega (arith, requests, cargo, history, b, log);
    }

-- room for an approval of a stack and a move of each row
pub approved-room : {A B : Type 0} (stamp : Stamp) (name person : List ℕ) (book new : Book) (rows : ℕ) (moves : Vec Move A) (batch : Vec Row B) → HasRoomFor rows moves → HasRoomFor (batch_rows 0 rows + 0 + 0) batch
    → new ≡ rows_approved stamp name (with_stack_approval book name person) → length new.history ≤ length book.history + rows → HoldsRoom book new moves batch
approved-room stamp name person book new rows moves batch for_moves for_batch is few =
    let left = rows_leave stamp (numbers_in_stack name book.requests) (with_stack_approval book name person) in
    let approvals = ap (λ (x : Book). length x.approvals) is ∙ ap length left.1 in
    let stack_approvals = ap (λ (x : Book). length x.stack_approvals) is ∙ ap length left.2 ∙ length-append book.stack_approvals _ in
    moves-room book new rows moves batch for_moves for_batch (ap (λ (x : Book). x.requests) is ∙ left.0) few
    (omega (arith, approvals)) (omega (arith, stack_approvals)) (ap (λ (x : Book). log_length x.log) is ∙ ap log_length left.3)

pub given-room : {A B : Type 0} (name person : List ℕ) (book new : Book) (rows : ℕ) (moves : Vec Move A) (batch : Vec Row B) → HasRoomFor rows moves → HasRoomFor (batch_rows 0 rows + 0 + 0) batch
    → new ≡ with_stack_approval book name person → HoldsRoom book new moves batch
given-room name person book new rows moves batch for_moves for_batch is =
    let history = ap (λ (x : Book). length x.history) is in
    let approvals = ap (λ (x : Book). length x.approvals) is in
    let stack_approvals = ap (λ (x : Book). length x.stack_approvals) is ∙ length-append book.stack_approvals _ in
    moves-room book new rows moves batch for_moves for_batch (ap (λ (x : Book). x.requests) is) (omega (arith, history))
    (omega (arith, approvals)) (omega (arith, stack_approvals)) (ap (λ (x : Book). log_length x.log) is)

-- room for an approval of a request
pub approval-room : {A B : Type 0} (n : ℕ) (person : List ℕ) (book new : Book) (rows : ℕ) (moves : Vec Move A) (batch : Vec Row B) → HasRoomFor rows moves → HasRoomFor (batch_rows 0 rows + 0 + 0) batch
    → new ≡ with_approval book n person → HoldsRoom book new moves batch
approval-room n person book new rows moves batch for_moves for_batch is =
    let history = ap (λ (x : Book). length x.history) is in
    let approvals = ap (λ (x : Book). length x.approvals) is ∙ length-append book.approvals _ in
    let stack_approvals = ap (λ (x : Book). length x.stack_approvals) is in
    moves-room book new rows moves batch for_moves for_batch (ap (λ (x : Book). x.requests) is) (omega (arith, history))
    (omega (arith, approvals)) (omega (arith, stack_approvals)) (ap (λ (x : Book). log_length x.log) is)

-- and for the move that follows it
pub approval_moved-room : {A B : Type 0} (stamp : Stamp) (n : ℕ) (person : List ℕ) (wanted : Want) (book new : Book) (rows : ℕ) (moves : Vec Move A) (batch : Vec Row B) → 1 ≤ rows → HasRoomFor rows moves → HasRoomFor (batch_rows 0 rows + 0 + 0) batch
    → new ≡ moved stamp (with_approval book n person) wanted → HoldsRoom book new moves batch
approval_moved-room stamp n person wanted book new rows moves batch one for_moves for_batch is =
    let history = ap (λ (x : Book). length x.history) is ∙ length-append book.history _ in
    let approvals = ap (λ (x : Book). length x.approvals) is ∙ length-append book.approvals _ in
    let stack_approvals = ap (λ (x : Book). length x.stack_approvals) is in
    moves-room book new rows moves batch for_moves for_batch (ap (λ (x : Book). x.requests) is) (omega (arith, history, one))
    (omega (arith, approvals)) (omega (arith, stack_approvals)) (ap (λ (x : Book). log_length x.log) is)
