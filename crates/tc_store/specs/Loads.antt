-- The texts that read all rows of a table, or a page of them, and the columns that they show.
use Rattle.std.specs.Prelude.{ℕ, ℤ, pos, negsuc, ◌+◌, int_le, nat_lt, Option, None, Some, List, [], ◌∷◌, filter}
use Rattle.sqlite_value.specs.declared.value.Value.TheVariants.{Int}
use Rattle.sqlite_value.specs.declared.keys.Collation.TheVariants.{Binary}
use Rattle.sqlite_sql.specs.declared.ops.BinaryOp.TheVariants.{Compare}
use Rattle.sqlite_sql.specs.declared.ops.CompareOp.TheVariants.{Ge, Lt}
use Rattle.sqlite_sql.specs.Term.{Term, lit, col, op2}
use Rattle.tc_types.specs.declared.history.moves.Move.{Move}
use Rattle.tc_types.specs.Limits.{page}
use Rattle.tc_store.specs.declared.loads.approvals.TheConstants.{ALL as ALL_APPROVAL}
use Rattle.tc_store.specs.declared.loads.cargo.TheConstants.{ALL as ALL_CARGO}
use Rattle.tc_store.specs.declared.loads.executions.TheConstants.{ALL as ALL_EXECUTION}
use Rattle.tc_store.specs.declared.loads.procedures.TheConstants.{ALL as ALL_PROCEDURE}
use Rattle.tc_store.specs.declared.loads.records.TheConstants.{ALL as ALL_RECORD}
use Rattle.tc_store.specs.declared.loads.requests.TheConstants.{ALL as ALL_REQUEST}
use Rattle.tc_store.specs.declared.loads.stack_approvals.TheConstants.{ALL as ALL_STACK_APPROVAL}
use Rattle.tc_store.specs.declared.loads.stacks.TheConstants.{ALL as ALL_STACK}
use Rattle.tc_store.specs.declared.loads.steps.TheConstants.{ALL as ALL_STEP}
use Rattle.tc_store.specs.declared.loads.tallies.TheConstants.{ALL as ALL_TALLY}
use Rattle.tc_store.specs.declared.loads.versions.TheConstants.{ALL as ALL_VERSION}
use Rattle.tc_store.specs.declared.loads.moves.TheConstants.{PAGE_TEXT as MOVE_PAGE}
use Rattle.tc_store.specs.declared.shifts.TheConstants.{PAGE_TEXT as SHIFT_PAGE}

abbrev pub all_request_text : List ℕ
all_request_text = ALL_REQUEST.now

abbrev pub all_request_columns : List Term
all_request_columns = col 1 0 ∷ col 1 2 ∷ col 1 3 ∷ col 1 4 ∷ col 1 5 ∷ col 1 6 ∷ col 1 7 ∷ col 1 8 ∷ col 1 9 ∷ col 1 10 ∷ col 1 11 ∷ col 1 12 ∷ col 1 13 ∷ col 1 14 ∷ col 1 15 ∷ []

abbrev pub all_tally_text : List ℕ
all_tally_text = ALL_TALLY.now

abbrev pub all_tally_columns : List Term
all_tally_columns = col 1 0 ∷ col 1 2 ∷ []

abbrev pub all_execution_text : List ℕ
all_execution_text = ALL_EXECUTION.now

abbrev pub all_execution_columns : List Term
all_execution_columns = col 1 0 ∷ col 1 2 ∷ col 1 3 ∷ col 1 4 ∷ []

abbrev pub all_approval_text : List ℕ
all_approval_text = ALL_APPROVAL.now

abbrev pub all_approval_columns : List Term
all_approval_columns = col 1 1 ∷ col 1 2 ∷ []

abbrev pub all_stack_text : List ℕ
all_stack_text = ALL_STACK.now

abbrev pub all_stack_columns : List Term
all_stack_columns = col 1 1 ∷ col 1 2 ∷ col 1 3 ∷ []

abbrev pub all_stack_approval_text : List ℕ
all_stack_approval_text = ALL_STACK_APPROVAL.now

abbrev pub all_stack_approval_columns : List Term
all_stack_approval_columns = col 1 1 ∷ col 1 2 ∷ []

abbrev pub all_procedure_text : List ℕ
all_procedure_text = ALL_PROCEDURE.now

abbrev pub all_procedure_columns : List Term
all_procedure_columns = col 1 1 ∷ col 1 2 ∷ []

abbrev pub all_step_text : List ℕ
all_step_text = ALL_STEP.now

abbrev pub all_step_columns : List Term
all_step_columns = col 1 1 ∷ col 1 2 ∷ col 1 3 ∷ col 1 4 ∷ col 1 5 ∷ []

abbrev pub all_record_text : List ℕ
all_record_text = ALL_RECORD.now

abbrev pub all_record_columns : List Term
all_record_columns = col 1 1 ∷ col 1 2 ∷ col 1 3 ∷ col 1 4 ∷ col 1 5 ∷ col 1 6 ∷ []

abbrev pub all_cargo_text : List ℕ
all_cargo_text = ALL_CARGO.now

abbrev pub all_cargo_columns : List Term
all_cargo_columns = col 1 1 ∷ col 1 2 ∷ col 1 3 ∷ col 1 4 ∷ []

abbrev pub all_version_text : List ℕ
all_version_text = ALL_VERSION.now

abbrev pub all_version_columns : List Term
all_version_columns = col 1 1 ∷ col 1 2 ∷ []

-- the moves from this number on
abbrev pub moves_from : ℤ → List Move → List Move
moves_from first moves = filter (λ (m : Move). int_le first (pos m.seq)) moves

-- how many moves a full page has
abbrev pub page_size : ℕ
page_size = page

abbrev pub move_page_text : List ℕ
move_page_text = MOVE_PAGE.now

abbrev pub move_page_tests : List Term
move_page_tests = op2 (Compare Ge Binary) (col 1 0) (col 0 0) ∷ []

abbrev pub move_page_limit : Term
move_page_limit = lit (Int (pos page_size))

-- those behind a number, and all where there is none
abbrev pub moves_behind : Option ℕ → List Move → List Move
moves_behind None moves = moves
moves_behind (Some n) moves = filter (λ (m : Move). nat_lt n m.seq) moves

-- what a page that ends at a number leaves, and nothing where it is the last
abbrev pub moves_left : Option ℕ → List Move → List Move
moves_left None moves = []
moves_left (Some n) moves = moves_behind (Some n) moves

-- the first number behind this one, and the least that a table may have where there is none
abbrev pub first_behind : Option ℕ → ℤ
first_behind None = negsuc 9223372036854775807
first_behind (Some n) = pos (n + 1)

abbrev pub shift_page_text : List ℕ
shift_page_text = SHIFT_PAGE.now

abbrev pub shift_page_tests : List Term
shift_page_tests = op2 (Compare Ge Binary) (col 1 7) (col 0 0) ∷ op2 (Compare Lt Binary) (col 1 7) (col 0 1) ∷ op2 (Compare Ge Binary) (col 1 0) (col 0 2) ∷ []
