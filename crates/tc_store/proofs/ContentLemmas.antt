-- What was read of tables that hold an image has the columns of that image.
use Rattle.std.proofs.Common.{◌≡◌, ℕ, ◌+◌, pos, List, [], ◌∷◌, map, true, refl, sym, ap, ap₂, subst, ◌∙◌}
use Rattle.std.specs.List.{AllByRecursion}
use Rattle.sqlite_value.specs.declared.value.Value.TheVariants.{Null, Int}
use Rattle.sqlite_value.specs.Order.{Row}
use Rattle.sqlite_trees.specs.Tree.{IsTable}
use Rattle.sqlite_sql.specs.Term.{Term}
use Rattle.sqlite_keyed.proofs.ListLemmas.{map-map, map_same}
use Rattle.sqlite.specs.Effect.{Database}
use Rattle.tc_types.specs.Tables.{Image}
use Rattle.tc_store.specs.declared.versions.Layout.{Layout}
use Rattle.tc_store.specs.declared.versions.Version.{Version}
use Rattle.tc_store.specs.declared.versions.Version.TheVariants.{First, Second, Third}
use Rattle.tc_store.specs.Ledgers.{Ledger}
use Rattle.tc_sql.specs.Contents.{has_tree, rows_in}
use Rattle.tc_sql.specs.Numbered.{numbered_from, numbered}
use Rattle.tc_sql.proofs.Changes.{matches_at}
use Rattle.tc_store.specs.Meta.{meta_tree, version_row}
use Rattle.tc_store.specs.Requests.{request_tree, request_row, request_given}
use Rattle.tc_store.specs.Moves.{move_tree, move_row, move_columns, move_shown}
use Rattle.tc_store.specs.Tallies.{tally_tree, tally_row, tally_given}
use Rattle.tc_store.specs.Approvals.{approval_tree, approval_values}
use Rattle.tc_store.specs.Stacks.{stack_tree, stack_values}
use Rattle.tc_store.specs.StackApprovals.{stack_approval_tree, stack_approval_values}
use Rattle.tc_store.specs.Procedures.{procedure_tree, procedure_values}
use Rattle.tc_store.specs.ProcedureSteps.{step_tree, step_values}
use Rattle.tc_store.specs.Executions.{execution_tree, execution_row, execution_given}
use Rattle.tc_store.specs.Records.{record_tree, record_values}
use Rattle.tc_store.specs.Replies.{reply_tree, reply_values}
use Rattle.tc_store.specs.Cargo.{cargo_tree, cargo_values}
use Rattle.tc_store.specs.Loads.{all_request_columns, all_tally_columns, all_approval_columns, all_stack_columns, all_stack_approval_columns, all_procedure_columns, all_step_columns, all_execution_columns, all_record_columns, all_cargo_columns}
use Rattle.tc_store.specs.Schema.{contents_behind, contents_of, HoldsAs, layout_in}
use Rattle.tc_store.specs.Shows.{shown_of, IsNumbered, AreNumbered, ShowsRows, ShowsCargo, ShowsAll}
use Rattle.tc_store.proofs.LayoutLemmas.{in_each}
use Rattle.tc_store.proofs.ShowLemmas.{map_all}

-- a row of a table whose key is a number, of the columns that show it
abbrev with_null : Row → Row
with_null [] = []
with_null (v ∷ vs) = v ∷ Null ∷ vs

module _ (version : Version) (ledger : Ledger) (loaded : Image) (db : Database) (held : HoldsAs version db ledger) where
  keyed : {X : Type 0} (tree : Layout → ℕ) (columns : List Term) (row shown : X → Row) (xs ys : List X) → ((layout : Layout) → has_tree (tree layout) (contents_of layout version ledger.image ledger.replies) ≡ true)
      → ((layout : Layout) → rows_in (tree layout) (contents_of layout version ledger.image ledger.replies) ≡ map row xs)
      → ((x : X) → shown_of columns (row x) ≡ shown x) → ((x : X) → with_null (shown x) ≡ row x) → ShowsRows (db.trees (tree (layout_in db))) columns (map shown ys) → map row ys ≡ map row xs
  keyed tree columns row shown xs ys named is showed back shows =
      let at = matches_at db.trees (tree (layout_in db)) (contents_of (layout_in db) version ledger.image ledger.replies) held.rows (named (layout_in db)) in
      let same : map shown ys ≡ map shown xs =
      shows.order (subst IsTable (sym at.0) at.1) ∙ ap (map (shown_of columns)) (at.0 ∙ is (layout_in db)) ∙ map-map (shown_of columns) row xs ∙ map_same (λ x. shown_of columns (row x)) shown showed xs in
      sym (map-map with_null shown ys ∙ map_same (λ x. with_null (shown x)) row back ys) ∙ ap (map with_null) same ∙ map-map with_null shown xs ∙ map_same (λ x. with_null (shown x)) row back xs

  shown_back : {X : Type 0} (columns : List Term) (values : X → Row) → ((n : ℕ) (x : X) → shown_of columns (Int (pos n) ∷ values x) ≡ values x) → (n : ℕ) (xs : List X)
      → map (shown_of columns) (numbered_from n (map values xs)) ≡ map values xs
  shown_back columns values showed n [] = refl
  shown_back columns values showed n (x ∷ xs) = ap₂ (λ a b. a ∷ b) (showed n x) (shown_back columns values showed (n + 1) xs)

  in_order : {X : Type 0} (tree : Layout → ℕ) (columns : List Term) (values : X → Row) (xs ys : List X) → ((layout : Layout) → has_tree (tree layout) (contents_of layout version ledger.image ledger.replies) ≡ true)
      → ((layout : Layout) → rows_in (tree layout) (contents_of layout version ledger.image ledger.replies) ≡ numbered (map values xs))
      → ((n : ℕ) (x : X) → shown_of columns (Int (pos n) ∷ values x) ≡ values x) → ShowsRows (db.trees (tree (layout_in db))) columns (map values ys) → numbered (map values ys) ≡ numbered (map values xs)
  in_order tree columns values xs ys named is showed shows =
      let at = matches_at db.trees (tree (layout_in db)) (contents_of (layout_in db) version ledger.image ledger.replies) held.rows (named (layout_in db)) in
      ap numbered (shows.order (subst IsTable (sym at.0) at.1) ∙ ap (map (shown_of columns)) (at.0 ∙ is (layout_in db)) ∙ shown_back columns values showed 1 xs)

  moves_numbered : AreNumbered (db.trees move_tree)
  moves_numbered =
      let at = matches_at db.trees move_tree (contents_of (layout_in db) version ledger.image ledger.replies) held.rows refl in
      record { rise = subst IsTable (sym at.0) at.1; whole = subst (AllByRecursion IsNumbered) (sym at.0) (map_all move_row IsNumbered (λ m. (refl, refl)) ledger.image.moves) }

  same_from : ShowsAll (layout_in db) version db loaded → contents_behind (layout_in db) version loaded ledger.replies ≡ contents_behind (layout_in db) version ledger.image ledger.replies
      → contents_of (layout_in db) version loaded ledger.replies ≡ contents_of (layout_in db) version ledger.image ledger.replies
  same_from shows behind =
      let requests = keyed (λ _. request_tree) all_request_columns request_row request_given ledger.image.requests loaded.requests (in_each _ refl refl refl refl) (in_each _ refl refl refl refl) (λ x. refl) (λ x. refl) shows.requests.requests_are in
      let moves = keyed (λ _. move_tree) move_columns move_row move_shown ledger.image.moves loaded.moves (in_each _ refl refl refl refl) (in_each _ refl refl refl refl) (λ x. refl) (λ x. refl) (shows.requests.moves_are moves_numbered) in
      let tallies = keyed tally_tree all_tally_columns tally_row tally_given ledger.image.tallies loaded.tallies (in_each _ refl refl refl refl) (in_each _ refl refl refl refl) (λ x. refl) (λ x. refl) shows.requests.tallies_are in
      let approvals = in_order approval_tree all_approval_columns approval_values ledger.image.approvals loaded.approvals (in_each _ refl refl refl refl) (in_each _ refl refl refl refl) (λ n x. refl) shows.requests.approvals_are in
      let stacks = in_order stack_tree all_stack_columns stack_values ledger.image.stacks loaded.stacks (in_each _ refl refl refl refl) (in_each _ refl refl refl refl) (λ n x. refl) shows.stacks.stacks_are in
      let stack_approvals = in_order stack_approval_tree all_stack_approval_columns stack_approval_values ledger.image.stack_approvals loaded.stack_approvals (in_each _ refl refl refl refl) (in_each _ refl refl refl refl) (λ n x. refl) shows.stacks.approvals_are in
      let procedures = in_order procedure_tree all_procedure_columns procedure_values ledger.image.procedures loaded.procedures (in_each _ refl refl refl refl) (in_each _ refl refl refl refl) (λ n x. refl) shows.procedures.procedures_are in
      let steps = in_order step_tree all_step_columns step_values ledger.image.steps loaded.steps (in_each _ refl refl refl refl) (in_each _ refl refl refl refl) (λ n x. refl) shows.procedures.steps_are in
      let executions = keyed execution_tree all_execution_columns execution_row execution_given ledger.image.executions loaded.executions (in_each _ refl refl refl refl) (in_each _ refl refl refl refl) (λ x. refl) (λ x. refl) shows.procedures.executions_are in
      let records = in_order record_tree all_record_columns record_values ledger.image.records loaded.records (in_each _ refl refl refl refl) (in_each _ refl refl refl refl) (λ n x. refl) shows.procedures.records_are in
      let at = (layout_in db) in
      λ i. (meta_tree, version_row version ∷ []) ∷ (request_tree, requests i) ∷ (move_tree, moves i) ∷ (tally_tree at, tallies i) ∷ (approval_tree at, approvals i) ∷ (stack_tree at, stacks i)
      ∷ (stack_approval_tree at, stack_approvals i) ∷ (procedure_tree at, procedures i) ∷ (step_tree at, steps i) ∷ (execution_tree at, executions i) ∷ (record_tree at, records i) ∷ behind i

-- those behind the tables of the first version
behind_same : (version : Version) (ledger : Ledger) (loaded : Image) (db : Database) (held : HoldsAs version db ledger) → ShowsCargo (layout_in db) version db loaded.cargo
    → contents_behind (layout_in db) version loaded ledger.replies ≡ contents_behind (layout_in db) version ledger.image ledger.replies
behind_same First ledger loaded db held shows = refl
behind_same Second ledger loaded db held shows = refl
behind_same Third ledger loaded db held shows =
    ap (λ rows. (reply_tree (layout_in db), numbered (map reply_values ledger.replies)) ∷ (cargo_tree (layout_in db), rows) ∷ [])
    (in_order Third ledger loaded db held cargo_tree all_cargo_columns cargo_values ledger.image.cargo loaded.cargo (in_each _ refl refl refl refl) (in_each _ refl refl refl refl) (λ n x. refl) shows)

pub contents_same : (version : Version) (ledger : Ledger) (loaded : Image) (db : Database) (held : HoldsAs version db ledger) → ShowsAll (layout_in db) version db loaded
    → contents_of (layout_in db) version loaded ledger.replies ≡ contents_of (layout_in db) version ledger.image ledger.replies
contents_same version ledger loaded db held shows = same_from version ledger loaded db held shows (behind_same version ledger loaded db held shows.requests.cargo_is)
