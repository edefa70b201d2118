-- The texts of CREATE lead to the schema of each version, and a row that is written leads from one ledger to the next.
use Rattle.std.proofs.Common.{◌≡◌, ℕ, ◌==◌, List, [], ◌∷◌, ◌++◌, map, take, inl, inr, Bool, true, false, refl, sym, ap, subst, ◌∙◌}
use Rattle.std.specs.List.{list_any}
use Rattle.sqlite_value.specs.Order.{Row as Values}
use Rattle.sqlite_trees.specs.Tree.{IsTable}
use Rattle.sqlite_trees.specs.declared.store.Store.{Ghosts}
use Rattle.sqlite_rules.specs.Edit.{is_taken}
use Rattle.sqlite.specs.Held.{Held, state}
use Rattle.sqlite.specs.Effect.{Database, IsDatabase}
use Rattle.sqlite_tied.specs.Compute.{everything}
use Rattle.sqlite.specs.Listing.{understood}
use Rattle.tc_types.specs.Tables as tables
use Rattle.tc_store.specs.Layouts.{IsLayoutOf}
use Rattle.tc_store.specs.declared.versions.Layout.TheVariants.{Made, Copied}
use Rattle.tc_store.specs.declared.versions.Layout.{Layout}
use Rattle.tc_store.specs.declared.versions.Version.{Version}
use Rattle.tc_store.specs.declared.versions.Version.TheVariants.{First, Second, Third}
use Rattle.tc_types.specs.Tables.{Image}
use Rattle.tc_store.specs.Ledgers.{Ledger, newest, with_image}
use Rattle.tc_types.specs.declared.tables.rows.Row.{Row}
use Rattle.tc_sql.specs.Forms.{table_of}
use Rattle.tc_sql.specs.Builds.{no_schema, Builds}
use Rattle.tc_sql.specs.Contents.{Matches, has_tree, rows_in, with_rows, are_tables}
use Rattle.tc_sql.specs.Puts.{HasPut, HasInserted, IsKeyed}
use Rattle.tc_sql.proofs.Keys.{taken_keyed}
use Rattle.tc_sql.specs.Numbered.{numbered, HasAppended}
use Rattle.tc_sql.proofs.Changes.{matches_at, matches_keyed}
use Rattle.tc_sql.proofs.Appends.{matches_appended}
use Rattle.tc_store.specs.Meta.{meta_form, meta_text}
use Rattle.tc_store.specs.Requests.{request_form, request_text}
use Rattle.tc_store.specs.Moves.{move_tree, move_form, move_index, move_text, move_index_text}
use Rattle.tc_store.specs.Tallies.{tally_form, tally_text}
use Rattle.tc_store.specs.Approvals.{approval_form, approval_text}
use Rattle.tc_store.specs.Stacks.{stack_form, stack_text}
use Rattle.tc_store.specs.StackApprovals.{stack_approval_form, stack_approval_text}
use Rattle.tc_store.specs.Procedures.{procedure_form, procedure_text}
use Rattle.tc_store.specs.ProcedureSteps.{step_form, step_text}
use Rattle.tc_store.specs.Executions.{execution_form, execution_text}
use Rattle.tc_store.specs.Records.{record_form, record_text}
use Rattle.tc_store.specs.Replies.{reply_form, reply_text}
use Rattle.tc_store.specs.Cargo.{cargo_tree, cargo_form, cargo_text}
use Rattle.sqlite_schema.specs.declared.schema.Schema.{Schema}
use Rattle.sqlite_catalog.specs.Change.{created, indexed}
use Rattle.tc_store.specs.Schema.{first_texts, create_texts, first_indexes, keys_of, keys_past_records, schema_of, newest_schema, texts_count, missing_texts, contents, Holds, layout_of, layout_in}
use Rattle.tc_store.specs.Steps.{Goes, IsNewIn, Step}
use Rattle.tc_store.proofs.LayoutLemmas.{holds_in}
use Rattle.tc_store.proofs.Rows.{same_put}

-- ---- the tables that are made one after another

-- with the tables before the index of the moves
abbrev with_meta : Schema
with_meta = created no_schema (table_of meta_form 0)

abbrev with_request : Schema
with_request = created with_meta (table_of request_form 0)

abbrev with_move : Schema
with_move = created with_request (table_of move_form 0)

abbrev with_index : Schema
with_index = indexed with_move (table_of move_form move_tree) move_index

-- behind such a schema
abbrev with_tally : Schema → Schema
with_tally schema = created schema (table_of tally_form 0)

abbrev with_approval : Schema → Schema
with_approval schema = created (with_tally schema) (table_of approval_form 0)

abbrev with_stack : Schema → Schema
with_stack schema = created (with_approval schema) (table_of stack_form 0)

abbrev with_stack_approval : Schema → Schema
with_stack_approval schema = created (with_stack schema) (table_of stack_approval_form 0)

abbrev with_procedure : Schema → Schema
with_procedure schema = created (with_stack_approval schema) (table_of procedure_form 0)

abbrev with_step : Schema → Schema
with_step schema = created (with_procedure schema) (table_of step_form 0)

abbrev with_execution : Schema → Schema
with_execution schema = created (with_step schema) (table_of execution_form 0)

abbrev with_record : Schema → Schema
with_record schema = created (with_execution schema) (table_of record_form 0)

built_moves : Builds no_schema (meta_text ∷ request_text ∷ move_text ∷ []) with_move
unfolding understood everything
built_moves = (
  with_meta,
  inl (record { table = table_of meta_form 0; command = refl; plain = (refl, refl); whole = refl; defined = refl; uncounted = refl; is = refl }),
  (
    with_request,
    inl (record { table = table_of request_form 0; command = refl; plain = (refl, refl); whole = refl; defined = refl; uncounted = refl; is = refl }),
    (
      with_move,
      inl (record { table = table_of move_form 0; command = refl; plain = (refl, refl); whole = refl; defined = refl; uncounted = refl; is = refl }),
      refl,
    ),
  ),
)

-- those behind the index, or behind the moves where it stands elsewhere
abbrev texts_behind : List (List ℕ)
texts_behind = tally_text ∷ approval_text ∷ stack_text ∷ stack_approval_text ∷ procedure_text ∷ step_text ∷ execution_text ∷ record_text ∷ []

built_behind_index : Builds with_index texts_behind (schema_of Made First)
unfolding understood everything
built_behind_index = (
  with_tally with_index,
  inl (record { table = table_of tally_form 0; command = refl; plain = (refl, refl); whole = refl; defined = refl; uncounted = refl; is = refl }),
  (
    with_approval with_index,
    inl (record { table = table_of approval_form 0; command = refl; plain = (refl, refl); whole = refl; defined = refl; uncounted = refl; is = refl }),
    (
      with_stack with_index,
      inl (record { table = table_of stack_form 0; command = refl; plain = (refl, refl); whole = refl; defined = refl; uncounted = refl; is = refl }),
      (
        with_stack_approval with_index,
        inl (record { table = table_of stack_approval_form 0; command = refl; plain = (refl, refl); whole = refl; defined = refl; uncounted = refl; is = refl }),
        (
          with_procedure with_index,
          inl (record { table = table_of procedure_form 0; command = refl; plain = (refl, refl); whole = refl; defined = refl; uncounted = refl; is = refl }),
          (
            with_step with_index,
            inl (record { table = table_of step_form 0; command = refl; plain = (refl, refl); whole = refl; defined = refl; uncounted = refl; is = refl }),
            (
              with_execution with_index,
              inl (record { table = table_of execution_form 0; command = refl; plain = (refl, refl); whole = refl; defined = refl; uncounted = refl; is = refl }),
              (
                schema_of Made First,
                inl (record { table = table_of record_form 0; command = refl; plain = (refl, refl); whole = refl; defined = refl; uncounted = refl; is = refl }),
                refl,
              ),
            ),
          ),
        ),
      ),
    ),
  ),
)

-- without the index
abbrev unindexed_first : Schema
unindexed_first = schema_of (Copied Third) First

built_behind_moves : Builds with_move texts_behind unindexed_first
unfolding understood everything
built_behind_moves = (
  with_tally with_move,
  inl (record { table = table_of tally_form 0; command = refl; plain = (refl, refl); whole = refl; defined = refl; uncounted = refl; is = refl }),
  (
    with_approval with_move,
    inl (record { table = table_of approval_form 0; command = refl; plain = (refl, refl); whole = refl; defined = refl; uncounted = refl; is = refl }),
    (
      with_stack with_move,
      inl (record { table = table_of stack_form 0; command = refl; plain = (refl, refl); whole = refl; defined = refl; uncounted = refl; is = refl }),
      (
        with_stack_approval with_move,
        inl (record { table = table_of stack_approval_form 0; command = refl; plain = (refl, refl); whole = refl; defined = refl; uncounted = refl; is = refl }),
        (
          with_procedure with_move,
          inl (record { table = table_of procedure_form 0; command = refl; plain = (refl, refl); whole = refl; defined = refl; uncounted = refl; is = refl }),
          (
            with_step with_move,
            inl (record { table = table_of step_form 0; command = refl; plain = (refl, refl); whole = refl; defined = refl; uncounted = refl; is = refl }),
            (
              with_execution with_move,
              inl (record { table = table_of execution_form 0; command = refl; plain = (refl, refl); whole = refl; defined = refl; uncounted = refl; is = refl }),
              (
                unindexed_first,
                inl (record { table = table_of record_form 0; command = refl; plain = (refl, refl); whole = refl; defined = refl; uncounted = refl; is = refl }),
                refl,
              ),
            ),
          ),
        ),
      ),
    ),
  ),
)

-- a chain behind another
built_then : (before mid after : Schema) (texts more : List (List ℕ)) → Builds before texts mid → Builds mid more after → Builds before (texts ++ more) after
built_then before mid after [] more one two = subst (λ s. Builds s more after) (sym one) two
built_then before mid after (text ∷ texts) more one two = (one.0, one.1, built_then one.0 mid after texts more one.2 two)

built_index : Builds with_move (move_index_text ∷ []) with_index
unfolding understood everything
built_index = (with_index, inr (record { at = 2; table = table_of move_form move_tree; index = move_index; listed = refl; command = refl; plain = (refl, refl); whole = refl; defined = refl; is = refl }), refl)

-- each table more, in each order
built_reply : (layout : Layout) → IsLayoutOf layout First → Builds (schema_of layout First) (reply_text ∷ []) (schema_of layout Second)
unfolding understood everything
built_reply Made fits = (schema_of Made Second, inl (record { table = table_of reply_form 0; command = refl; plain = (refl, refl); whole = refl; defined = refl; uncounted = refl; is = refl }), refl)
built_reply (Copied First) fits = (schema_of (Copied First) Second, inl (record { table = table_of reply_form 0; command = refl; plain = (refl, refl); whole = refl; defined = refl; uncounted = refl; is = refl }), refl)
built_reply (Copied Second) fits = absurd fits
built_reply (Copied Third) fits = absurd fits

built_cargo : (layout : Layout) → IsLayoutOf layout Second → Builds (schema_of layout Second) (cargo_text ∷ []) (schema_of layout Third)
unfolding understood everything
built_cargo Made fits = (schema_of Made Third, inl (record { table = table_of cargo_form 0; command = refl; plain = (refl, refl); whole = refl; defined = refl; uncounted = refl; is = refl }), refl)
built_cargo (Copied First) fits = (schema_of (Copied First) Third, inl (record { table = table_of cargo_form 0; command = refl; plain = (refl, refl); whole = refl; defined = refl; uncounted = refl; is = refl }), refl)
built_cargo (Copied Second) fits = (schema_of (Copied Second) Third, inl (record { table = table_of cargo_form 0; command = refl; plain = (refl, refl); whole = refl; defined = refl; uncounted = refl; is = refl }), refl)
built_cargo (Copied Third) fits = absurd fits

-- the tables of the third version without the index
abbrev unindexed_third : Schema
unindexed_third = record { tables = (schema_of (Copied Third) Third).tables; indexes = first_indexes (Copied Third) ++ keys_past_records (Copied Third) ++ keys_of cargo_form (cargo_tree (Copied Third)); views = [] }

fits_next : (layout : Layout) → IsLayoutOf layout First → IsLayoutOf layout Second
fits_next Made fits = tt
fits_next (Copied First) fits = tt
fits_next (Copied Second) fits = tt
fits_next (Copied Third) fits = absurd fits

-- and the index behind all of them
built_copied_first : Builds unindexed_first (move_index_text ∷ []) (schema_of (Copied First) First)
unfolding understood everything
built_copied_first = (schema_of (Copied First) First, inr (record { at = 2; table = table_of move_form move_tree; index = move_index; listed = refl; command = refl; plain = (refl, refl); whole = refl; defined = refl; is = refl }), refl)

built_copied_second : Builds unindexed_first (reply_text ∷ move_index_text ∷ []) (schema_of (Copied Second) Second)
unfolding understood everything
built_copied_second = (schema_of (Copied Third) Second, inl (record { table = table_of reply_form 0; command = refl; plain = (refl, refl); whole = refl; defined = refl; uncounted = refl; is = refl }), (schema_of (Copied Second) Second, inr (record { at = 2; table = table_of move_form move_tree; index = move_index; listed = refl; command = refl; plain = (refl, refl); whole = refl; defined = refl; is = refl }), refl))

built_copied_third : Builds unindexed_first (reply_text ∷ cargo_text ∷ move_index_text ∷ []) (schema_of (Copied Third) Third)
unfolding understood everything
built_copied_third = (
  schema_of (Copied Third) Second,
  inl (record { table = table_of reply_form 0; command = refl; plain = (refl, refl); whole = refl; defined = refl; uncounted = refl; is = refl }),
  (unindexed_third, inl (record { table = table_of cargo_form 0; command = refl; plain = (refl, refl); whole = refl; defined = refl; uncounted = refl; is = refl }), (schema_of (Copied Third) Third, inr (record { at = 2; table = table_of move_form move_tree; index = move_index; listed = refl; command = refl; plain = (refl, refl); whole = refl; defined = refl; is = refl }), refl)),
)

-- the newest from each version
pub built_from : (layout : Layout) (version : Version) → IsLayoutOf layout version → Builds (schema_of layout version) (missing_texts version) (schema_of layout newest)
built_from layout First fits =
    built_then (schema_of layout First) (schema_of layout Second) (schema_of layout newest) (reply_text ∷ []) (cargo_text ∷ []) (built_reply layout fits) (built_cargo layout (fits_next layout fits))
built_from layout Second fits = built_cargo layout fits
built_from layout Third fits = refl

-- the tables of the first version, in each order
built_first_made : Builds no_schema (take 12 (create_texts Made)) (schema_of Made First)
built_first_made =
    built_then no_schema with_move (schema_of Made First) (meta_text ∷ request_text ∷ move_text ∷ []) (move_index_text ∷ texts_behind) built_moves
    (built_then with_move with_index (schema_of Made First) (move_index_text ∷ []) texts_behind built_index built_behind_index)

built_unindexed : Builds no_schema first_texts unindexed_first
built_unindexed = built_then no_schema with_move unindexed_first (meta_text ∷ request_text ∷ move_text ∷ []) texts_behind built_moves built_behind_moves

built_first_copied : Builds no_schema (take 12 (create_texts (Copied First))) (schema_of (Copied First) First)
built_first_copied = built_then no_schema unindexed_first (schema_of (Copied First) First) first_texts (move_index_text ∷ []) built_unindexed built_copied_first

built_second_copied : Builds no_schema (take 13 (create_texts (Copied Second))) (schema_of (Copied Second) Second)
built_second_copied = built_then no_schema unindexed_first (schema_of (Copied Second) Second) first_texts (reply_text ∷ move_index_text ∷ []) built_unindexed built_copied_second

-- to each version, in each order in which its tables may stand
pub built_as : (layout : Layout) (version : Version) → IsLayoutOf layout version → Builds no_schema (take (texts_count version) (create_texts layout)) (schema_of layout version)
built_as Made First fits = built_first_made
built_as Made Second fits = built_then no_schema (schema_of Made First) (schema_of Made Second) (take 12 (create_texts Made)) (reply_text ∷ []) built_first_made (built_reply Made tt)
built_as Made Third fits = built_then no_schema (schema_of Made First) (schema_of Made Third) (take 12 (create_texts Made)) (reply_text ∷ cargo_text ∷ []) built_first_made (built_from Made First tt)
built_as (Copied First) First fits = built_first_copied
built_as (Copied First) Second fits =
    built_then no_schema (schema_of (Copied First) First) (schema_of (Copied First) Second) (take 12 (create_texts (Copied First))) (reply_text ∷ []) built_first_copied (built_reply (Copied First) tt)
built_as (Copied First) Third fits =
    built_then no_schema (schema_of (Copied First) First) (schema_of (Copied First) Third) (take 12 (create_texts (Copied First))) (reply_text ∷ cargo_text ∷ []) built_first_copied (built_from (Copied First) First tt)
built_as (Copied Second) First fits = absurd fits
built_as (Copied Second) Second fits = built_second_copied
built_as (Copied Second) Third fits =
    built_then no_schema (schema_of (Copied Second) Second) (schema_of (Copied Second) Third) (take 13 (create_texts (Copied Second))) (cargo_text ∷ [])
    built_second_copied (built_cargo (Copied Second) tt)
built_as (Copied Third) First fits = absurd fits
built_as (Copied Third) Second fits = absurd fits
built_as (Copied Third) Third fits = built_then no_schema unindexed_first (schema_of (Copied Third) Third) first_texts (reply_text ∷ cargo_text ∷ move_index_text ∷ []) built_unindexed built_copied_third

-- those of a new desk
pub built : Builds no_schema (create_texts Made) newest_schema
built = built_as Made Third tt

-- each tree of the contents is a table's
pub clear : (layout : Layout) (ledger : Ledger) → are_tables (schema_of layout newest) (contents layout ledger) ≡ true
clear Made ledger = refl
clear (Copied First) ledger = refl
clear (Copied Second) ledger = refl
clear (Copied Third) ledger = refl

-- where one tree changed, and the ledger with it
pub holds_after : (old new : Database) (tree : ℕ) (rows : List Values) (ledger after : Ledger) → new.schema ≡ old.schema → IsDatabase new → (held : Holds old ledger)
    → Matches new.trees (with_rows tree rows (contents (layout_in old) ledger)) → with_rows tree rows (contents (layout_in old) ledger) ≡ contents (layout_in old) after → Holds new after
holds_after old new tree rows ledger after same sound held has becomes =
    holds_in (layout_in old) newest new after held.fits (same ∙ held.schema) (subst (Matches new.trees) becomes has) tt sound

pub unindexed : (db : Database) (ledger : Ledger) (held : Holds db ledger) → are_tables db.schema (contents (layout_in db) ledger) ≡ true
unindexed db ledger held = ap (λ s. are_tables s (contents (layout_in db) ledger)) held.schema ∙ clear (layout_in db) ledger

-- a row in a table that is keyed by a number
module _ {S : Type 0} (g : Ghosts S) {X : Type 0} (key : X → ℕ) (row : X → Values) (keyed : IsKeyed key row) (x : X) (list : Image → List X) (tree : Layout → ℕ) (entry : Row) (old new : Held S)
    (named : (layout : Layout) (ledger : Ledger) → has_tree (tree layout) (contents layout ledger) ≡ true)
    (is : (layout : Layout) (ledger : Ledger) → rows_in (tree layout) (contents layout ledger) ≡ map row (list ledger.image))
    (becomes : (layout : Layout) (ledger : Ledger) → with_rows (tree layout) (map row (tables.put_by key x (list ledger.image))) (contents layout ledger) ≡ contents layout (with_image (entry ∷ []) ledger)) where
  abbrev before : Database
  before = (state g old).now

  abbrev after : Database
  after = (state g new).now

  there : (ledger : Ledger) (held : Holds before ledger) → (before.trees (tree (layout_in before)) ≡ map row (list ledger.image)) × IsTable (map row (list ledger.image))
  there ledger held =
      let at = matches_at before.trees (tree (layout_in before)) (contents (layout_in before) ledger) held.rows (named (layout_in before) ledger) in
      (at.0 ∙ is (layout_in before) ledger, subst IsTable (is (layout_in before) ledger) at.1)

  holds_put : (ledger : Ledger) (held : Holds before ledger) → HasPut (tree (layout_in before)) (row x) before after → Holds after (with_image (entry ∷ []) ledger)
  holds_put ledger held put =
      let at = tree (layout_in before) in
      let all = contents (layout_in before) ledger in
      holds_after before after at (map row (tables.put_by key x (list ledger.image))) ledger (with_image (entry ∷ []) ledger) put.schema put.sound held
      (subst (λ ys. Matches after.trees (with_rows at (map row ys) all)) (same_put key x (list ledger.image))
      (matches_keyed key row keyed x (list ledger.image) at before after all put (unindexed before ledger held) (named (layout_in before) ledger) (is (layout_in before) ledger) held.rows)) (becomes (layout_in before) ledger)

  is_new : (ledger : Ledger) (held : Holds before ledger) → HasInserted (tree (layout_in before)) (row x) before after → list_any (λ y. key y == key x) (list ledger.image) ≡ false
  is_new ledger held inserted = sym (taken_keyed key row keyed x (list ledger.image)) ∙ ap (λ rows. is_taken rows (row x)) (sym (there ledger held).0) ∙ inserted.fresh

  -- a new one, where no row had its key
  pub stepped : ((image : Image) → list_any (λ y. key y == key x) (list image) ≡ false → IsNewIn image entry)
      → ((layout : Layout) → old.schema ≡ schema_of layout newest → HasInserted (tree layout) (row x) before after) → Goes g old new → Step g (entry ∷ []) old new
  stepped alone inserted goes = record {
    fresh = λ ledger held. (alone ledger.image (is_new ledger held (inserted (layout_in before) held.schema)), tt);
    holds = λ ledger held. holds_put ledger held (inserted (layout_in before) held.schema).put;
    order = λ ledger held. ap layout_of (inserted (layout_in before) held.schema).put.schema;
    goes = goes;
  }

  -- one in place of the row with its key, where there is one
  pub stepped_over : ((image : Image) → IsNewIn image entry)
      → ((xs : List X) (layout : Layout) → old.schema ≡ schema_of layout newest → before.trees (tree layout) ≡ map row xs → IsTable (map row xs) → HasPut (tree layout) (row x) before after) → Goes g old new
      → Step g (entry ∷ []) old new
  stepped_over free put goes = record {
    fresh = λ ledger held. (free ledger.image, tt);
    holds = λ ledger held. holds_put ledger held (put (list ledger.image) (layout_in before) held.schema (there ledger held).0 (there ledger held).1);
    order = λ ledger held. ap layout_of (put (list ledger.image) (layout_in before) held.schema (there ledger held).0 (there ledger held).1).schema;
    goes = goes;
  }

-- the same of a table whose key is a text or several columns
module _ {S : Type 0} (g : Ghosts S) {X : Type 0} (values : X → Values) (same : X → X → Bool) (x : X) (list : Image → List X) (tree : Layout → ℕ) (entry : Row) (old new : Held S)
    (named : (layout : Layout) (ledger : Ledger) → has_tree (tree layout) (contents layout ledger) ≡ true)
    (is : (layout : Layout) (ledger : Ledger) → rows_in (tree layout) (contents layout ledger) ≡ numbered (map values (list ledger.image)))
    (becomes : (layout : Layout) (ledger : Ledger) → with_rows (tree layout) (numbered (map values (list ledger.image ++ x ∷ []))) (contents layout ledger) ≡ contents layout (with_image (entry ∷ []) ledger))
    (alone : (image : Image) → list_any (λ y. same y x) (list image) ≡ false → IsNewIn image entry)
    (appended : (xs : List X) (layout : Layout) → old.schema ≡ schema_of layout newest → (state g old).now.trees (tree layout) ≡ numbered (map values xs) → HasAppended (tree layout) values same x xs (state g old).now (state g new).now) where
  has_appended : (ledger : Ledger) (held : Holds (state g old).now ledger) → HasAppended (tree (layout_in (state g old).now)) values same x (list ledger.image) (state g old).now (state g new).now
  has_appended ledger held =
      appended (list ledger.image) (layout_in (state g old).now) held.schema ((matches_at (state g old).now.trees (tree (layout_in (state g old).now)) (contents (layout_in (state g old).now) ledger) held.rows (named (layout_in (state g old).now) ledger)).0 ∙ is (layout_in (state g old).now) ledger)

  pub stepped_last : Goes g old new → Step g (entry ∷ []) old new
  stepped_last goes = record {
    fresh = λ ledger held. (alone ledger.image (has_appended ledger held).alone, tt);
    holds = λ ledger held.
        let at = tree (layout_in (state g old).now) in
        let it = has_appended ledger held in
        holds_after (state g old).now (state g new).now at (numbered (map values (list ledger.image ++ x ∷ []))) ledger (with_image (entry ∷ []) ledger) it.put.schema it.put.sound held
        (matches_appended values same x (list ledger.image) at (state g old).now (state g new).now (contents (layout_in (state g old).now) ledger) it (unindexed (state g old).now ledger held)
        (named (layout_in (state g old).now) ledger) (is (layout_in (state g old).now) ledger) held.rows) (becomes (layout_in (state g old).now) ledger);
    order = λ ledger held. ap layout_of (has_appended ledger held).put.schema;
    goes = goes;
  }
