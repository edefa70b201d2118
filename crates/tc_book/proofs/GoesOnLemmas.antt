-- What an act makes of the book goes on from the book before it.
use Rattle.std.proofs.Common.{◌≡◌, ℕ, ◌+◌, Bool, true, false, not, ◌&&◌, ◌||◌, if◌then◌else◌, fold, Option, Some, None, List, [], ◌∷◌, ◌++◌, length, drop, refl, sym, ◌∙◌, ap, subst, append_assoc, append-nil, Vec, arith}
use Rattle.std.specs.List.{list_all, sum_by}
use Rattle.std.specs.Option.{option_map_or}
use Rattle.std.proofs.Math.Seq.{drop-append_seam}
use Rattle.std.proofs.lemmas.List.Folds.{list_all-append, list_any-append}
use Rattle.std.proofs.lemmas.Bool.{and_parts}
use Rattle.std.proofs.lemmas.List.{length-append}
use Rattle.tc_types.specs.declared.history.places.Place.{Place}
use Rattle.tc_types.specs.declared.history.places.Place.TheVariants.{Entered, Approved}
use Rattle.tc_types.specs.declared.history.causes.Cause.{Cause}
use Rattle.tc_types.specs.declared.history.causes.Cause.TheVariants as cause
use Rattle.tc_types.specs.declared.acts.BookAct.TheVariants as act
use Rattle.tc_types.specs.declared.acts.StepAct.{StepAct}
use Rattle.tc_types.specs.declared.history.moves.Move.{Move}
use Rattle.tc_types.specs.declared.requests.Form.{Form}
use Rattle.tc_types.specs.declared.requests.Origin.{Origin}
use Rattle.tc_types.specs.declared.requests.Request.{Request}
use Rattle.tc_types.specs.declared.tables.rows.Row.{Row}
use Rattle.tc_stack.specs.declared.stacks.StackRow.{StackRow}
use Rattle.tc_book.specs.declared.stamps.Stamp.{Stamp}
use Rattle.tc_book.specs.Acts.{acted, row_approved, rows_approved}
use Rattle.tc_proc.specs.declared.procedures.Step.{Step}
use Rattle.tc_proc.specs.Logs.{LogState, with_procedure, with_execution, with_record}
use Rattle.tc_book.specs.Batch.{HasBehind, GoesOn, LogGoesOn, is_apart_from, HasRoomFor, HoldsRoom, batch_rows}
use Rattle.tc_book.specs.Cargoes.{behind_first}
use Rattle.tc_book.specs.Book.{Book, stands, request_of, row_of, moved, want, with_entry, with_approval}
use Rattle.tc_book.specs.Logs.{procedure_loaded, record_made, recorded}
use Rattle.tc_book.specs.Loads.{loaded, with_row, with_rows, origin_of, entry_from}
use Rattle.tc_book.specs.Stacks.{is_row_of, is_in_stack, has_stack, numbers_in_stack, with_stack_approval}
use Rattle.tc_book.proofs.CarriedLemmas.{cargo_entered}
use Rattle.tc_book.proofs.LoadLemmas.{rows_requests, rows_history, rows_cargo}
use Rattle.tc_book.proofs.StackLemmas.{same_name, name_itself}

-- one list, and more behind it
pub behind : {X : Type 0} (xs ys : List X) → HasBehind xs (xs ++ ys)
behind xs ys = ap (λ zs. xs ++ zs) (sym (drop-append_seam xs ys))

pub behind-same : {X : Type 0} (xs : List X) → HasBehind xs xs
behind-same xs = subst (HasBehind xs) (append-nil xs) (behind xs [])

-- a list behind a list behind a list
behind-whole : {X : Type 0} (xs ys zs : List X) → HasBehind xs ys → HasBehind ys zs → zs ≡ xs ++ (drop (length xs) ys ++ drop (length ys) zs)
behind-whole {X} xs ys zs first second = second ∙ ap (λ (l : List X). l ++ drop (length ys) zs) first ∙ append_assoc xs (drop (length xs) ys) (drop (length ys) zs)

behind-twice : {X : Type 0} (xs ys zs : List X) → HasBehind xs ys → HasBehind ys zs → HasBehind xs zs
behind-twice {X} xs ys zs first second =
    subst (HasBehind xs) (sym (behind-whole xs ys zs first second)) (behind xs (drop (length xs) ys ++ drop (length ys) zs))

-- the part behind
behind-part : {X : Type 0} (xs ys zs : List X) → HasBehind xs ys → HasBehind ys zs → drop (length xs) zs ≡ drop (length xs) ys ++ drop (length ys) zs
behind-part {X} xs ys zs first second = ap (drop (length xs)) (behind-whole xs ys zs first second) ∙ drop-append_seam xs (drop (length xs) ys ++ drop (length ys) zs)

none_behind : {X : Type 0} (xs : List X) → drop (length xs) xs ≡ []
none_behind {X} xs = ap (drop (length xs)) (sym (append-nil xs)) ∙ drop-append_seam xs []

-- ---- no stack has more rows

both_true : (a b : Bool) → a ≡ true → b ≡ true → (a && b) ≡ true
both_true a b x y = rw (x, y) refl

-- who is of no stack among these is of none among those in front
apart_front : (front more : List Request) (xs : List Request) → list_all (is_apart_from (front ++ more)) xs ≡ true → list_all (is_apart_from front) xs ≡ true
apart_front front more [] all = refl
apart_front front more (x ∷ xs) all =
    let parts = and_parts (is_apart_from (front ++ more) x) (list_all (is_apart_from (front ++ more)) xs) all in
    both_true (is_apart_from front x) (list_all (is_apart_from front) xs) (by_origin x.origin parts.0) (apart_front front more xs parts.1)
  where
    by_two : (a b : Bool) → not (a || b) ≡ true → not a ≡ true
    by_two true b h = h
    by_two false b h = refl

    by_origin : (origin : Option Origin) → option_map_or (λ (o : Origin). not (has_stack o.stack (front ++ more))) origin true ≡ true → option_map_or (λ (o : Origin). not (has_stack o.stack front)) origin true ≡ true
    by_origin None h = h
    by_origin (Some o) h = by_two (has_stack o.stack front) (has_stack o.stack more) (ap not (sym (list_any-append (is_in_stack o.stack) front more)) ∙ h)

apart_none : (requests : List Request) → list_all (is_apart_from requests) (drop (length requests) requests) ≡ true
apart_none requests = ap (list_all (is_apart_from requests)) (none_behind requests)

apart_behind : (requests more : List Request) → list_all (is_apart_from requests) more ≡ true → list_all (is_apart_from requests) (drop (length requests) (requests ++ more)) ≡ true
apart_behind requests more all = ap (list_all (is_apart_from requests)) (drop-append_seam requests more) ∙ all

apart_twice : (a b c : List Request) → HasBehind a b → HasBehind b c → list_all (is_apart_from a) (drop (length a) b) ≡ true → list_all (is_apart_from b) (drop (length b) c) ≡ true
    → list_all (is_apart_from a) (drop (length a) c) ≡ true
apart_twice a b c first second one two =
    ap (list_all (is_apart_from a)) (behind-part a b c first second)
    ∙ list_all-append (is_apart_from a) (drop (length a) b) (drop (length b) c)
    ∙ both_true _ _ one (apart_front a (drop (length a) b) (drop (length b) c) (subst (λ l. list_all (is_apart_from l) (drop (length b) c) ≡ true) first two))

-- ---- the log of procedures

pub same-log_goes_on : (log : LogState) → LogGoesOn log log
same-log_goes_on log = record { loaded = behind-same log.loaded; steps = behind-same log.steps; executions = behind-same log.executions; records = behind-same log.records }

log_on_and_on : (a b c : LogState) → LogGoesOn a b → LogGoesOn b c → LogGoesOn a c
log_on_and_on a b c first second = record {
  loaded = behind-twice a.loaded b.loaded c.loaded first.loaded second.loaded;
  steps = behind-twice a.steps b.steps c.steps first.steps second.steps;
  executions = behind-twice a.executions b.executions c.executions first.executions second.executions;
  records = behind-twice a.records b.records c.records first.records second.records;
}

-- a book of which the log alone goes on
log-goes_on : (book : Book) (log : LogState) → LogGoesOn book.log log → GoesOn book (record book { log = log })
log-goes_on book log on = record {
  requests = behind-same book.requests;
  history = behind-same book.history;
  approvals = behind-same book.approvals;
  stack_approvals = behind-same book.stack_approvals;
  log = on;
  stacks = apart_none book.requests;
}

pub begun-goes_on : (stamp : Stamp) (name : List ℕ) (book : Book) → GoesOn book (acted stamp (act.Begin name) book)
begun-goes_on stamp name book =
    log-goes_on book (with_execution book.log name stamp.by stamp.moment)
    (record { loaded = behind-same book.log.loaded; steps = behind-same book.log.steps; executions = behind book.log.executions _; records = behind-same book.log.records })

pub procedure-goes_on : (stamp : Stamp) (name : List ℕ) (steps : List Step) (book : Book) → GoesOn book (procedure_loaded stamp name steps book)
procedure-goes_on stamp name steps book =
    log-goes_on book (with_procedure book.log name stamp.by steps)
    (record { loaded = behind book.log.loaded _; steps = behind book.log.steps _; executions = behind-same book.log.executions; records = behind-same book.log.records })

pub recorded-goes_on : (stamp : Stamp) (given : StepAct) (book : Book) → GoesOn book (recorded stamp given book)
recorded-goes_on stamp given book =
    log-goes_on book (with_record book.log (record_made stamp given))
    (record { loaded = behind-same book.log.loaded; steps = behind-same book.log.steps; executions = behind-same book.log.executions; records = behind book.log.records _ })

-- ---- acts

pub same-goes_on : (book : Book) → GoesOn book book
same-goes_on book = record {
  requests = behind-same book.requests;
  history = behind-same book.history;
  approvals = behind-same book.approvals;
  stack_approvals = behind-same book.stack_approvals;
  log = same-log_goes_on book.log;
  stacks = apart_none book.requests;
}

pub on_and_on : (a b c : Book) → GoesOn a b → GoesOn b c → GoesOn a c
on_and_on a b c first second = record {
  requests = behind-twice a.requests b.requests c.requests first.requests second.requests;
  history = behind-twice a.history b.history c.history first.history second.history;
  approvals = behind-twice a.approvals b.approvals c.approvals first.approvals second.approvals;
  stack_approvals = behind-twice a.stack_approvals b.stack_approvals c.stack_approvals first.stack_approvals second.stack_approvals;
  log = log_on_and_on a.log b.log c.log first.log second.log;
  stacks = apart_twice a.requests b.requests c.requests first.requests second.requests first.stacks second.stacks;
}

pub moved-goes_on : (stamp : Stamp) (book : Book) (n : ℕ) (to : Place) (c : Cause) → GoesOn book (moved stamp book (want n to c))
moved-goes_on stamp book n to c = record {
  requests = behind-same book.requests;
  history = behind book.history _;
  approvals = behind-same book.approvals;
  stack_approvals = behind-same book.stack_approvals;
  log = same-log_goes_on book.log;
  stacks = apart_none book.requests;
}

pub given-goes_on : (book : Book) (n : ℕ) (person : List ℕ) → GoesOn book (with_approval book n person)
given-goes_on book n person = record {
  requests = behind-same book.requests;
  history = behind-same book.history;
  approvals = behind book.approvals _;
  stack_approvals = behind-same book.stack_approvals;
  log = same-log_goes_on book.log;
  stacks = apart_none book.requests;
}

pub stack_given-goes_on : (book : Book) (name person : List ℕ) → GoesOn book (with_stack_approval book name person)
stack_given-goes_on book name person = record {
  requests = behind-same book.requests;
  history = behind-same book.history;
  approvals = behind-same book.approvals;
  stack_approvals = behind book.stack_approvals _;
  log = same-log_goes_on book.log;
  stacks = apart_none book.requests;
}

pub entered-goes_on : (stamp : Stamp) (book : Book) (entry : Form) → GoesOn book (with_entry stamp book entry)
entered-goes_on stamp book entry = record {
  requests = behind book.requests _;
  history = behind book.history _;
  approvals = behind-same book.approvals;
  stack_approvals = behind-same book.stack_approvals;
  log = same-log_goes_on book.log;
  stacks = apart_behind book.requests (request_of stamp book.requests None entry ∷ []) refl;
}

-- ---- a load

-- rows that are entered go behind, and are all of this stack
module _ (stamp : Stamp) (name : List ℕ) (start : ℕ) where
  pub record Made (old new : Book) : Type 0 where
    pub made : List Request
    pub requests : new.requests ≡ old.requests ++ made
    pub rows : list_all (is_in_stack name) made ≡ true
    pub history : HasBehind old.history new.history
    pub approvals : new.approvals ≡ old.approvals
    pub stack_approvals : new.stack_approvals ≡ old.stack_approvals
    pub log : new.log ≡ old.log

  pub rows_made : (line : ℕ) (book : Book) (rows : List StackRow) → Made book (with_rows stamp name start line book rows)
  rows_made line book [] = record { made = []; requests = sym (append-nil book.requests); rows = refl; history = behind-same book.history; approvals = refl; stack_approvals = refl; log = refl }
  rows_made line book (row ∷ rows) =
      let others = rows_made (line + 1) (with_row stamp name start line book row) rows in
      record {
        made = first ∷ others.made;
        requests = others.requests ∙ append_assoc book.requests (first ∷ []) others.made;
        rows = both_true (is_in_stack name first) (list_all (is_in_stack name) others.made) (name_itself name) others.rows;
        history = behind-twice book.history (with_row stamp name start line book row).history (with_rows stamp name start (line + 1) (with_row stamp name start line book row) rows).history (behind book.history _) others.history;
        approvals = others.approvals;
        stack_approvals = others.stack_approvals;
        log = others.log;
      }
    where
      first : Request
      first = request_of stamp book.requests (Some (origin_of name line row)) (entry_from start row.entry)

-- the rows of a stack are apart from requests of which none is its
rows_apart : (name : List ℕ) (requests : List Request) (xs : List Request) → has_stack name requests ≡ false → list_all (is_in_stack name) xs ≡ true → list_all (is_apart_from requests) xs ≡ true
rows_apart name requests [] unused all = refl
rows_apart name requests (x ∷ xs) unused all =
    let parts = and_parts (is_in_stack name x) (list_all (is_in_stack name) xs) all in
    both_true (is_apart_from requests x) (list_all (is_apart_from requests) xs) (by_origin x.origin parts.0) (rows_apart name requests xs unused parts.1)
  where
    by_origin : (origin : Option Origin) → is_row_of name origin ≡ true → option_map_or (λ (o : Origin). not (has_stack o.stack requests)) origin true ≡ true
    by_origin None is = cc
    by_origin (Some o) is = ap not (ap (λ n. has_stack n requests) (same_name o.stack name is) ∙ unused)

pub loaded-goes_on : (stamp : Stamp) (name : List ℕ) (rows : List StackRow) (book : Book) → has_stack name book.requests ≡ false → GoesOn book (loaded stamp name rows book)
loaded-goes_on stamp name rows book unused =
    let all = rows_made stamp name (length book.requests + 1) 1 book rows in
    record {
      requests = subst (HasBehind book.requests) (sym all.requests) (behind book.requests all.made);
      history = all.history;
      approvals = subst (HasBehind book.approvals) (sym all.approvals) (behind-same book.approvals);
      stack_approvals = subst (HasBehind book.stack_approvals) (sym all.stack_approvals) (behind-same book.stack_approvals);
      log = subst (LogGoesOn book.log) (sym all.log) (same-log_goes_on book.log);
      stacks = subst (λ l. list_all (is_apart_from book.requests) (drop (length book.requests) l) ≡ true) (sym all.requests) (apart_behind book.requests all.made (rows_apart name book.requests all.made unused all.rows));
    }

-- ---- steps of an act: what goes on with one more step goes on

if-goes_on : (book after : Book) (t : Bool) → GoesOn book after → GoesOn book (if t then after else book)
if-goes_on book after true on = on
if-goes_on book after false on = same-goes_on book

rows-goes_on : (stamp : Stamp) (ns : List ℕ) (book : Book) → GoesOn book (fold (row_approved stamp) book ns)
rows-goes_on stamp [] book = same-goes_on book
rows-goes_on stamp (n ∷ ns) book =
    on_and_on book (row_approved stamp book n) (fold (row_approved stamp) (row_approved stamp book n) ns)
    (if-goes_on book (moved stamp book (want n Approved cause.Approve)) (stands book n (Entered ∷ [])) (moved-goes_on stamp book n Approved cause.Approve)) (rows-goes_on stamp ns (row_approved stamp book n))

pub moved_on : (stamp : Stamp) (book given after : Book) (n : ℕ) (to : Place) (c : Cause) → GoesOn book given → after ≡ moved stamp given (want n to c) → GoesOn book after
moved_on stamp book given after n to c on is = on_and_on book given after on (subst (GoesOn given) (sym is) (moved-goes_on stamp given n to c))

pub given_on : (book given after : Book) (n : ℕ) (person : List ℕ) → given ≡ book → after ≡ with_approval given n person → GoesOn book after
given_on book given after n person same is = subst (λ (b : Book). GoesOn b after) same (subst (GoesOn given) (sym is) (given-goes_on given n person))

pub stack_given_on : (book given after : Book) (name person : List ℕ) → given ≡ book → after ≡ with_stack_approval given name person → GoesOn book after
stack_given_on book given after name person same is = subst (λ (b : Book). GoesOn b after) same (subst (GoesOn given) (sym is) (stack_given-goes_on given name person))

pub rows_on : (stamp : Stamp) (name : List ℕ) (book given after : Book) → GoesOn book given → after ≡ rows_approved stamp name given → GoesOn book after
rows_on stamp name book given after on is = on_and_on book given after on (subst (GoesOn given) (sym is) (rows-goes_on stamp (numbers_in_stack name given.requests) given))

-- ---- room

-- room for all that an entry writes
pub entered-room : {A B : Type 0} (stamp : Stamp) (entry : Form) (book : Book) (moves : Vec Move A) (batch : Vec Row B)
    → HasRoomFor 1 moves → HasRoomFor (batch_rows 1 1 + length (behind_first entry.command) + 0) batch → HoldsRoom book (with_entry stamp book entry) moves batch
entered-room stamp entry book moves batch for_moves for_batch =
    let requests = length-append book.requests (request_of stamp book.requests None entry ∷ []) in
    let history = length-append book.history (row_of stamp book.history (want (length book.requests + 1) Entered cause.Enter) ∷ []) in
    let cargo = cargo_entered book.requests (request_of stamp book.requests None entry) in
    let m = for_moves.1 in
    let b = for_batch.1 in
    record {
      moves_empty = for_moves.0;
      moves_room = omega (arith, history, m);
      batch_empty = for_batch.0;
      approvals = omega arith;
      stack_approvals = omega arith;
      batch_room = omega (arith, requests, cargo, history, b);
    }

-- room for all that a load writes
pub loaded-room : {A B : Type 0} (stamp : Stamp) (name : List ℕ) (rows : List StackRow) (book : Book) (moves : Vec Move A) (batch : Vec Row B)
    → HasRoomFor (length rows) moves → HasRoomFor (batch_rows (length rows) (length rows) + sum_by (λ (row : StackRow). length (behind_first row.entry.command)) rows + 0) batch
    → HoldsRoom book (loaded stamp name rows book) moves batch
loaded-room stamp name rows book moves batch for_moves for_batch =
    let requests = rows_requests stamp name (length book.requests + 1) 1 book rows in
    let history = rows_history stamp name (length book.requests + 1) 1 book rows in
    let cargo = rows_cargo stamp name (length book.requests + 1) 1 book rows in
    let made = rows_made stamp name (length book.requests + 1) 1 book rows in
    let m = for_moves.1 in
    let b = for_batch.1 in
    record {
      moves_empty = for_moves.0;
      moves_room = omega (arith, history, m);
      batch_empty = for_batch.0;
      approvals = rw made.approvals (omega arith);
      stack_approvals = rw made.stack_approvals (omega arith);
      batch_room = rw made.log (omega (arith, requests, cargo, history, b));
    }
