-- What a row of a stack names, and where it goes: each row may follow those before it.
use Rattle.std.proofs.Common.{◌≡◌, ◌≢◌, ℕ, zero, suc, ◌+◌, ◌-◌, ◌<◌, ◌≤◌, ◌==◌, Bool, true, false, not, ◌&&◌, ◌||◌, if◌then◌else◌, Option, Some, None, List, [], ◌∷◌, ◌++◌, length, map, get_or, take, inl, inr, refl, sym, ◌∙◌, ap, ap₂, subst, arith}
use Rattle.std.specs.Prelude.{◌⊎◌, IfSome, IsSomeAnd}
use Rattle.std.specs.List.{AllByRecursion, list_any, slice_get}
use Rattle.std.proofs.lemmas.List.{append-nil, append_assoc, length-append, length-take, get_or-take}
use Rattle.std.proofs.lemmas.Bool.{or_parts}
use Rattle.std.proofs.lemmas.Bool.Decides.{nat_tests}
use Rattle.tc_types.specs.declared.requests.Request.{Request}
use Rattle.tc_types.specs.declared.requests.Form.{Form}
use Rattle.tc_types.specs.declared.requests.Ack.{Ack}
use Rattle.tc_types.specs.declared.requests.Command.{Command}
use Rattle.tc_types.specs.declared.requests.Command.TheVariants as command
use Rattle.tc_types.specs.declared.tables.rows.StackApproval.{StackApproval}
use Rattle.tc_types.specs.Names.{IsName, is_same_name}
use Rattle.tc_types.specs.Schedule.{is_schedule, is_insert, KeepsScheduleRule, ridden, targets_of, has_twice}
use Rattle.tc_types.specs.declared.rides.Ride.{Ride}
use Rattle.tc_stack.specs.declared.stacks.StackRow.{StackRow}
use Rattle.tc_stack.specs.Stacks.{IsEarlier, IsRow, AreRows, IsStack, at_line, is_barred, is_barred_line, names_barred, first_barred}
use Rattle.tc_book.specs.declared.stamps.Stamp.{Stamp}
use Rattle.tc_book.specs.Book.{Book, request_in, request_of}
use Rattle.tc_book.specs.Good.{IsNextRow, IsGoodOrigin}
use Rattle.tc_book.specs.Loads.{IsWithin, ride_from, command_from, entry_from, origin_of, with_row, with_rows}
use Rattle.tc_book.specs.Stacks.{has_stack, stack_approvers_of}
use Rattle.tc_book.specs.Targets.{is_bad_activity, IsGoodTarget, HasGoodTargets}
use Rattle.tc_book.proofs.RequestLemmas.{request_in-front, request_in-next}
use Rattle.tc_book.proofs.LoadLemmas.{rows_requests}
use Rattle.tc_book.proofs.StackLemmas.{same_name}

-- ---- commands

-- a command stays of the schedule, or not
from_schedule : (start : ℕ) (given : Command) → is_schedule (command_from start given) ≡ is_schedule given
from_schedule start (command.Plain service subtype) = refl
from_schedule start command.EnableSchedule = refl
from_schedule start command.DisableSchedule = refl
from_schedule start command.ResetSchedule = refl
from_schedule start (command.InsertActivities rides) = refl
from_schedule start (command.DeleteActivity target) = refl
from_schedule start (command.ShiftActivity target offset) = refl
from_schedule start (command.ShiftAll offset) = refl
from_schedule start command.SummarizeAll = refl

-- and an insert
from_insert : (start : ℕ) (given : Command) → is_insert (command_from start given) ≡ is_insert given
from_insert start (command.Plain service subtype) = refl
from_insert start command.EnableSchedule = refl
from_insert start command.DisableSchedule = refl
from_insert start command.ResetSchedule = refl
from_insert start (command.InsertActivities rides) = refl
from_insert start (command.DeleteActivity target) = refl
from_insert start (command.ShiftActivity target offset) = refl
from_insert start (command.ShiftAll offset) = refl
from_insert start command.SummarizeAll = refl

-- the number of the request that a line becomes
abbrev pub number_from : ℕ → ℕ → ℕ
number_from start line = start + line - 1

-- it names those requests that its lines become
from_targets : (start : ℕ) (given : Command) → targets_of (command_from start given) ≡ map (number_from start) (targets_of given)
from_targets start (command.Plain service subtype) = refl
from_targets start command.EnableSchedule = refl
from_targets start command.DisableSchedule = refl
from_targets start command.ResetSchedule = refl
from_targets start (command.InsertActivities rides) = each rides
  where
    each : (xs : List Ride) → map ridden (map (ride_from start) xs) ≡ map (number_from start) (map ridden xs)
    each [] = refl
    each (x ∷ xs) = ap (λ l. number_from start x.target ∷ l) (each xs)
from_targets start (command.DeleteActivity target) = refl
from_targets start (command.ShiftActivity target offset) = refl
from_targets start (command.ShiftAll offset) = refl
from_targets start command.SummarizeAll = refl

-- which are as many, each once where each line is named once
twice_from : (start : ℕ) (lines : List ℕ) → 0 < start → has_twice (map (number_from start) lines) ≡ has_twice lines
twice_from start [] some = refl
twice_from start (line ∷ lines) some = ap₂ (λ a b. a || b) (each lines) (twice_from start lines some)
  where
    same : (n : ℕ) → (number_from start n == number_from start line) ≡ (n == line)
    same n = grind (arith, nat_tests)

    each : (ns : List ℕ) → list_any (λ m. m == number_from start line) (map (number_from start) ns) ≡ list_any (λ m. m == line) ns
    each [] = refl
    each (n ∷ ns) = ap₂ (λ a b. a || b) (same n) (each ns)

pub from_keeps : (start : ℕ) (entry : Form) → KeepsScheduleRule entry → KeepsScheduleRule (entry_from start entry)
from_keeps start entry keeps = record {
  completion = λ is. keeps.completion (sym (from_schedule start entry.command) ∙ is);
  completes = λ is. keeps.completes (sym (from_schedule start entry.command) ∙ is);
}

-- ---- what the rows became

-- the request that the row on a line became
pub record IsMadeOf (stamp : Stamp) (name : List ℕ) (start line : ℕ) (row : StackRow) (r : Request) : Type 0 where
  pub by : r.author ≡ stamp.by
  pub origin : r.origin ≡ Some (origin_of name line row)
  pub given : r.body.command ≡ command_from start row.entry.command
  pub ack : r.body.ack ≡ row.entry.ack

-- requests go behind
rows_behind : (stamp : Stamp) (name : List ℕ) (start line : ℕ) (book : Book) (rows : List StackRow) → (made : List Request) × ((with_rows stamp name start line book rows).requests ≡ book.requests ++ made)
rows_behind stamp name start line book [] = ([], sym (append-nil book.requests))
rows_behind stamp name start line book (row ∷ rows) =
    let first : Request = request_of stamp book.requests (Some (origin_of name line row)) (entry_from start row.entry) in
    let others = rows_behind stamp name start (line + 1) (with_row stamp name start line book row) rows in
    (first ∷ others.0, others.1 ∙ append_assoc book.requests (first ∷ []) others.0)

-- each row became the request with the next number
pub rows_became : (stamp : Stamp) (name : List ℕ) (start line : ℕ) (book : Book) (rows : List StackRow) (j : ℕ) (d : StackRow) → j < length rows
    → IsSomeAnd (request_in (with_rows stamp name start line book rows).requests (length book.requests + j + 1)) (IsMadeOf stamp name start (line + j) (get_or rows j d))
rows_became stamp name start line book [] j d low = absurd (omega arith)
rows_became stamp name start line book (row ∷ rows) zero d low =
    let first : Request = request_of stamp book.requests (Some (origin_of name line row)) (entry_from start row.entry) in
    let others = rows_behind stamp name start (line + 1) (with_row stamp name start line book row) rows in
    let here : request_in (with_rows stamp name start line book (row ∷ rows)).requests (length book.requests + 0 + 1) ≡ Some first =
    ap (λ l. request_in l (length book.requests + 0 + 1)) others.1 ∙ request_in-front (book.requests ++ first ∷ []) others.0 first (length book.requests + 0 + 1) (ap (request_in (book.requests ++ first ∷ [])) (omega arith) ∙ request_in-next book.requests first) in
    rw here (record { by = refl; origin = ap (λ n. Some (origin_of name n row)) (omega arith); given = refl; ack = refl })
rows_became stamp name start line book (row ∷ rows) (suc j) d low =
    let next : Book = with_row stamp name start line book row in
    let one : length next.requests ≡ length book.requests + 1 = length-append book.requests _ in
    let number : length next.requests + j + 1 ≡ length book.requests + suc j + 1 = omega (arith, one) in
    let there : line + 1 + j ≡ line + suc j = omega arith in
    subst (λ n. IsSomeAnd (request_in (with_rows stamp name start line book (row ∷ rows)).requests n) (IsMadeOf stamp name start (line + suc j) (get_or rows j d))) number
    (subst (λ n. IsSomeAnd (request_in (with_rows stamp name start (line + 1) next rows).requests (length next.requests + j + 1)) (IsMadeOf stamp name start n (get_or rows j d))) there
    (rows_became stamp name start (line + 1) next rows j d (omega arith)))

-- ---- what a row names

-- among rows none of which is barred
barred_none : (all : List StackRow) (line : ℕ) (rows : List StackRow) → first_barred all line rows ≡ None → AllByRecursion (λ row. names_barred all row ≡ false) rows
barred_none all line [] none = tt
barred_none all line (row ∷ rows) none = by_test (names_barred all row) refl (barred_none all (line + 1) rows) none
  where
    by_test : (t : Bool) → names_barred all row ≡ t → (first_barred all (line + 1) rows ≡ None → AllByRecursion (λ x. names_barred all x ≡ false) rows)
        → (if t then Some line else first_barred all (line + 1) rows) ≡ None → AllByRecursion (λ x. names_barred all x ≡ false) (row ∷ rows)
    by_test true e rest never = cc
    by_test false e rest none = (e, rest none)

all_at : {X : Type 0} (P : X → Type 0) (xs : List X) (i : ℕ) (d : X) → i < length xs → AllByRecursion P xs → P (get_or xs i d)
all_at P [] i d low all = absurd (omega arith)
all_at P (x ∷ xs) zero d low all = all.0
all_at P (x ∷ xs) (suc i) d low all = all_at P xs i d (omega arith) all.1

row_at : (line : ℕ) (rows : List StackRow) (i : ℕ) (d : StackRow) → i < length rows → AreRows line rows → IsRow (line + i) (get_or rows i d)
row_at line [] i d low all = absurd (omega arith)
row_at line (row ∷ rows) zero d low all = subst (λ n. IsRow n row) (omega arith) all.0
row_at line (row ∷ rows) (suc i) d low all = subst (λ n. IsRow n (get_or rows i d)) (omega arith) (row_at (line + 1) rows i d (omega arith) all.1)

line_found : (rows : List StackRow) (t : ℕ) (d : StackRow) → 0 < t → t ≤ length rows → at_line rows t ≡ Some (get_or rows (t - 1) d)
line_found rows t d some most =
    let other : (t == 0) ≡ false = grind (arith, nat_tests) in
    rw other (found rows (t - 1) (omega arith))
  where
    found : (xs : List StackRow) (i : ℕ) → i < length xs → slice_get xs i ≡ Some (get_or xs i d)
    found [] i low = absurd (omega arith)
    found (x ∷ xs) zero low = refl
    found (x ∷ xs) (suc i) low = found xs i (omega arith)

-- a request that a row became may be named where the row may
may_name : (stamp : Stamp) (name : List ℕ) (start line : ℕ) (given : Command) (row : StackRow) (r : Request) → IsMadeOf stamp name start line row r
    → (is_schedule row.entry.command || (is_insert given && not row.entry.ack.acceptance)) ≡ false → (is_schedule r.body.command || (is_insert given && not r.body.ack.acceptance)) ≡ false
may_name stamp name start line given row r made may =
    ap (λ t. t || (is_insert given && not r.body.ack.acceptance)) (ap is_schedule made.given ∙ from_schedule start row.entry.command)
    ∙ ap (λ (a : Ack). is_schedule row.entry.command || (is_insert given && not a.acceptance)) made.ack
    ∙ may

module _ (stamp : Stamp) (name : List ℕ) (book : Book) (rows : List StackRow) (stack : IsStack rows) (k : ℕ) (d : StackRow) (low : k < length rows) (here : d ≡ get_or rows k d) where
  abbrev start : ℕ
  start = length book.requests + 1

  abbrev at : Book
  at = with_rows stamp name start 1 book (take k rows)

  taken : length (take k rows) ≡ k
  taken = let len = length-take k rows in grind (arith, len, low)

  -- the request of an earlier line is among those that were entered, and may be named
  named_there : (given : Command) (t : ℕ) → IsEarlier (1 + k) t → is_barred given (at_line rows t) ≡ false → IsGoodTarget at.requests given (start + t - 1)
  named_there given t within may =
      let some = within.0 in
      let less = within.1 in
      let front : t - 1 < length (take k rows) = omega (arith, taken, some, less) in
      let number : length book.requests + (t - 1) + 1 ≡ start + t - 1 = omega (arith, some) in
      let row : get_or (take k rows) (t - 1) d ≡ get_or rows (t - 1) d = get_or-take k rows (t - 1) d (omega (arith, some, less)) in
      let is : is_barred given (Some (get_or rows (t - 1) d)) ≡ false = subst (λ found. is_barred given found ≡ false) (line_found rows t d some (omega (arith, less, low))) may in
      subst (IsGoodTarget at.requests given) number
      (some_so (request_in at.requests (length book.requests + (t - 1) + 1)) (rows_became stamp name start 1 book (take k rows) (t - 1) d front)
      (λ r made. may_name stamp name start (1 + (t - 1)) given (get_or (take k rows) (t - 1) d) r made (rw row is)))
    where
      some_so : {P Q : Request → Type 0} (found : Option Request) → IsSomeAnd found P → ((r : Request) → P r → Q r) → IsSomeAnd found Q
      some_so None there so = absurd there
      some_so (Some r) there so = so r there

  -- so are those of earlier lines
  all_there : (given : Command) (lines : List ℕ) → AllByRecursion (IsEarlier (1 + k)) lines → list_any (is_barred_line rows given) lines ≡ false
      → AllByRecursion (IsGoodTarget at.requests given) (map (number_from start) lines)
  all_there given [] before may = tt
  all_there given (line ∷ lines) before may =
      let parts = or_parts (is_barred_line rows given line) (list_any (is_barred_line rows given) lines) may in
      (named_there given line before.0 parts.0, all_there given lines before.1 parts.1)

  -- what the next row names was entered before it, and may be named
  pub next_targets : HasGoodTargets at.requests (command_from start d.entry.command)
  next_targets = subst (λ (row : StackRow). HasGoodTargets at.requests (command_from start row.entry.command)) (sym here) (record {
    each = subst (AllByRecursion (IsGoodTarget at.requests (command_from start given))) (sym (from_targets start given)) (as_from (map (number_from start) (targets_of given)) (all_there given (targets_of given) is.targets parts.0));
    once = ap has_twice (from_targets start given) ∙ twice_from start (targets_of given) (omega arith) ∙ parts.1;
  })
    where
      given : Command
      given = (get_or rows k d).entry.command

      is : IsRow (1 + k) (get_or rows k d)
      is = row_at 1 rows k d low stack.each

      parts : (list_any (is_barred_line rows given) (targets_of given) ≡ false) × (has_twice (targets_of given) ≡ false)
      parts = or_parts (list_any (is_barred_line rows given) (targets_of given)) (has_twice (targets_of given)) (all_at (λ row. names_barred rows row ≡ false) rows k d low (barred_none rows 1 rows stack.targets))

      -- who may be named by the one may be named by the other
      may_from : (named : Request) → is_bad_activity given named ≡ false → is_bad_activity (command_from start given) named ≡ false
      may_from named may = ap (λ t. is_schedule named.body.command || (t && not named.body.ack.acceptance)) (from_insert start given) ∙ may

      by_found : (found : Option Request) → IsSomeAnd found (λ named. is_bad_activity given named ≡ false) → IsSomeAnd found (λ named. is_bad_activity (command_from start given) named ≡ false)
      by_found None there = absurd there
      by_found (Some named) there = may_from named there

      as_from : (numbers : List ℕ) → AllByRecursion (IsGoodTarget at.requests given) numbers → AllByRecursion (IsGoodTarget at.requests (command_from start given)) numbers
      as_from [] all = tt
      as_from (n ∷ numbers) all = (by_found (request_in at.requests n) all.0, as_from numbers all.1)

  -- the next row goes on with its stack
  pub next_origin : has_stack name book.requests ≡ false → IsName name → IsGoodOrigin at.requests stamp.by (origin_of name (k + 1) d)
  next_origin unused named = subst (λ (row : StackRow). IsGoodOrigin at.requests stamp.by (origin_of name (k + 1) row)) (sym here) (record {
    line = by_first (k == 0) refl;
    few = let most = stack.few in omega (arith, most, low);
    after = by_after (get_or rows k d).after is.after;
    named = named;
  })
    where
      is : IsRow (1 + k) (get_or rows k d)
      is = row_at 1 rows k d low stack.each

      by_after : (after : Option ℕ) → IfSome after (IsEarlier (1 + k)) → IfSome after (IsEarlier (k + 1))
      by_after None before = tt
      by_after (Some t) before = let some = before.0 in let less = before.1 in (some, omega (arith, less))

      next : (j : ℕ) (row : StackRow) (r : Request) → k ≡ j + 1 → IsMadeOf stamp name start (1 + j) row r → IsNextRow stamp.by (origin_of name (k + 1) (get_or rows k d)) r
      next j row r one made = record { by = made.by; stack = rw made.origin (refl, omega (arith, one)) }

      some_so : {P Q : Request → Type 0} (found : Option Request) → IsSomeAnd found P → ((r : Request) → P r → Q r) → IsSomeAnd found Q
      some_so None there so = absurd there
      some_so (Some r) there so = so r there

      by_first : (t : Bool) → (k == 0) ≡ t
          → ((k + 1 ≡ 1) × (has_stack name at.requests ≡ false)) ⊎ IsSomeAnd (request_in at.requests (length at.requests)) (IsNextRow stamp.by (origin_of name (k + 1) (get_or rows k d)))
      by_first true e =
          let nought : k ≡ 0 = grind (arith, nat_tests) in
          inl (omega (arith, nought), subst (λ n. has_stack name (with_rows stamp name start 1 book (take n rows)).requests ≡ false) (sym nought) unused)
      by_first false e =
          let some : k ≢ 0 = λ nought. grind (arith, nat_tests) in
          let front : k - 1 < length (take k rows) = omega (arith, taken, some) in
          let long = rows_requests stamp name start 1 book (take k rows) in
          let number : length book.requests + (k - 1) + 1 ≡ length at.requests = omega (arith, long, taken, some) in
          inr (subst (λ n. IsSomeAnd (request_in at.requests n) (IsNextRow stamp.by (origin_of name (k + 1) (get_or rows k d)))) number
          (some_so (request_in at.requests (length book.requests + (k - 1) + 1)) (rows_became stamp name start 1 book (take k rows) (k - 1) d front)
          (λ r made. next (k - 1) (get_or (take k rows) (k - 1) d) r (omega (arith, some)) made)))

-- what a row names are lines that a stack can have
pub next_named : (rows : List StackRow) → IsStack rows → (k : ℕ) (row : StackRow) → k < length rows → row ≡ get_or rows k row → AllByRecursion IsWithin (targets_of row.entry.command)
next_named rows stack k row low here =
    subst (λ (r : StackRow). AllByRecursion IsWithin (targets_of r.entry.command)) (sym here) (by_lines (targets_of (get_or rows k row).entry.command) (row_at 1 rows k row low stack.each).targets)
  where
    by_lines : (lines : List ℕ) → AllByRecursion (IsEarlier (1 + k)) lines → AllByRecursion IsWithin lines
    by_lines [] before = tt
    by_lines (line ∷ lines) before =
        let some = before.0.0 in
        let less = before.0.1 in
        let most = stack.few in
        ((some, omega (arith, less, most, low)), by_lines lines before.1)

-- an activity of a row names one of them
pub ride_within : (rides : List Ride) (i : ℕ) (ride : Ride) → i < length rides → ride ≡ get_or rides i ride → AllByRecursion IsWithin (map ridden rides) → IsWithin ride.target
ride_within rides i ride low is all = subst (λ (r : Ride). IsWithin r.target) (sym is) (at rides i low all)
  where
    at : (xs : List Ride) (j : ℕ) → j < length xs → AllByRecursion IsWithin (map ridden xs) → IsWithin (get_or xs j ride).target
    at [] j inside each = absurd (omega arith)
    at (x ∷ xs) zero inside each = each.0
    at (x ∷ xs) (suc j) inside each = at xs j (omega arith) each.1

-- ---- approvals

-- nobody approved a stack that was not loaded
pub nobody_yet : (requests : List Request) (approvals : List StackApproval) (name : List ℕ) → AllByRecursion (λ (a : StackApproval). has_stack a.stack requests ≡ true) approvals
    → has_stack name requests ≡ false → stack_approvers_of approvals name ≡ []
nobody_yet requests [] name all unused = refl
nobody_yet requests (a ∷ approvals) name all unused = by_name (is_same_name a.stack name) refl (nobody_yet requests approvals name all.1 unused)
  where
    by_name : (t : Bool) → is_same_name a.stack name ≡ t → stack_approvers_of approvals name ≡ [] → stack_approvers_of (a ∷ approvals) name ≡ []
    by_name true is none = let never : false ≡ true = sym unused ∙ ap (λ n. has_stack n requests) (sym (same_name a.stack name is)) ∙ all.0 in cc
    by_name false is none = rw is none
