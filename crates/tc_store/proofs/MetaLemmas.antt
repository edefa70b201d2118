-- What the text of `meta` means: the row that names the version.
use Rattle.std.proofs.Common.{◌≡◌, ℕ, pos, true, codes, [], ◌∷◌, map, take, Result, Ok, Err, OnOk, IfOk, refl, sym, ap, subst, ◌∙◌}
use Rattle.sqlite_value.specs.Order.{Row}
use Rattle.sqlite_value.specs.declared.value.Value.TheVariants.{Null, Int, Text}
use Rattle.sqlite_trees.specs.Tree.{put_row}
use Rattle.sqlite_trees.specs.declared.store.Store.{Ghosts}
use Rattle.sqlite_schema.specs.declared.schema.Schema.{Schema}
use Rattle.sqlite_rules.specs.declared.error.Rowids.TheVariants.{Chosen}
use Rattle.sqlite_rules.specs.Edit.{with_rowid}
use Rattle.sqlite_tied.specs.Compute.{everything}
use Rattle.sqlite.specs.Effect.{Database}
use Rattle.sqlite.specs.Listing.{understood}
use Rattle.sqlite.specs.declared.error.Error.{Error}
use Rattle.sqlite.specs.Held.{Held, state}
use Rattle.std.specs.List.{AllByRecursion}
use Rattle.tc_types.specs.Lawful.{all_places}
use Rattle.tc_sql.specs.Builds.{no_schema, Builds, BuildsTo}
use Rattle.tc_sql.specs.Contents.{Contents, Matches, are_tables}
use Rattle.tc_sql.specs.Puts.{PutsInto, HasPut}
use Rattle.tc_sql.proofs.Inserts.{inserts}
use Rattle.tc_sql.proofs.Changes.{matches_put}
use Rattle.tc_store.specs.Layouts.{IsLayoutOf}
use Rattle.tc_store.specs.declared.versions.Layout.TheVariants.{Made}
use Rattle.tc_store.specs.declared.versions.Layout.{Layout}
use Rattle.tc_store.specs.Meta.{meta_tree, meta_form, meta_put, meta_terms, version_row}
use Rattle.tc_store.specs.Requests.{request_tree}
use Rattle.tc_store.specs.Moves.{move_tree}
use Rattle.tc_store.specs.Tallies.{tally_tree, first_tally}
use Rattle.tc_store.specs.Approvals.{approval_tree}
use Rattle.tc_store.specs.Stacks.{stack_tree}
use Rattle.tc_store.specs.StackApprovals.{stack_approval_tree}
use Rattle.tc_store.specs.Procedures.{procedure_tree}
use Rattle.tc_store.specs.ProcedureSteps.{step_tree}
use Rattle.tc_store.specs.Executions.{execution_tree}
use Rattle.tc_store.specs.Records.{record_tree}
use Rattle.tc_store.specs.Replies.{reply_tree}
use Rattle.tc_store.specs.Cargo.{cargo_tree}
use Rattle.tc_store.specs.declared.versions.Version.{Version}
use Rattle.tc_store.specs.Ledgers.{newest}
use Rattle.tc_store.specs.Schema.{newest_schema, schema_of, create_texts, texts_count, Holds}
use Rattle.tc_store.specs.Steps.{Ran, Defined, Versioned, Step, Filled, blank_ledger}
use Rattle.tc_store.proofs.LayoutLemmas.{told_layout, holds_in}
use Rattle.tc_store.proofs.SchemaLemmas.{built, built_as}
use Rattle.tc_store.proofs.StepLemmas.{goes_then}

meta_puts : PutsInto newest_schema meta_form meta_tree meta_put meta_terms
unfolding understood everything
meta_puts = record { at = 0; listed = refl; command = refl; plain = (refl, refl); single = refl; quiet = λ _ _. refl }

-- the trees before it
abbrev no_rows : Contents
no_rows =
    (meta_tree, []) ∷ (request_tree, []) ∷ (move_tree, []) ∷ (tally_tree Made, []) ∷ (approval_tree Made, []) ∷ (stack_tree Made, []) ∷ (stack_approval_tree Made, []) ∷ (procedure_tree Made, [])
    ∷ (step_tree Made, []) ∷ (execution_tree Made, []) ∷ (record_tree Made, []) ∷ (reply_tree Made, []) ∷ (cargo_tree Made, []) ∷ []

abbrev given : Row
given = Null ∷ Text (codes "schema") ∷ Int (pos 3) ∷ []

versioned_from : (old new : Database) → BuildsTo newest_schema [] old → HasPut meta_tree (with_rowid Chosen (old.trees meta_tree) given) old new → Holds new blank_ledger
versioned_from old new to put =
    let none : AllByRecursion (λ t. old.trees t.tree ≡ []) newest_schema.tables = subst (λ (s : Schema). AllByRecursion (λ t. old.trees t.tree ≡ []) s.tables) to.builds to.empty in
    let before : Matches old.trees no_rows = ((none.0, tt), ((none.1.0, tt), ((none.1.1.0, tt), ((none.1.1.1.0, tt), ((none.1.1.1.1.0, tt), ((none.1.1.1.1.1.0, tt), ((none.1.1.1.1.1.1.0, tt), ((none.1.1.1.1.1.1.1.0, tt), ((none.1.1.1.1.1.1.1.1.0, tt), ((none.1.1.1.1.1.1.1.1.1.0, tt), ((none.1.1.1.1.1.1.1.1.1.1.0, tt), ((none.1.1.1.1.1.1.1.1.1.1.1.0, tt), ((none.1.1.1.1.1.1.1.1.1.1.1.1.0, tt), tt))))))))))))) in
    let clear : are_tables old.schema no_rows ≡ true = ap (λ s. are_tables s no_rows) to.builds in
    let row : version_row newest ∷ [] ≡ put_row (with_rowid Chosen (old.trees meta_tree) given) (old.trees meta_tree) = ap (λ rows. put_row (with_rowid Chosen rows given) rows) (sym none.0) in
    holds_in Made newest new blank_ledger tt (put.schema ∙ to.builds) (matches_put meta_tree (with_rowid Chosen (old.trees meta_tree) given) (version_row newest ∷ []) old new no_rows put clear row before) tt put.sound

pub versioned : {S : Type 0} (g : Ghosts S) (old new : Held S) (r : Result ℕ Error) → IfOk r (λ count. Ran g meta_put [] count old new) → OnOk r (Versioned g old new)
versioned g old new (Err e) h = tt
versioned g old new (Ok count) h =
    record {
      holds = λ to. versioned_from (state g old).now (state g new).now to (inserts meta_puts [] given (state g old) (state g new) (Ok count) to.builds refl refl h.executes).put;
      order = λ to. told_layout Made newest (state g new).now.schema tt ((inserts meta_puts [] given (state g old) (state g new) (Ok count) to.builds refl refl h.executes).put.schema ∙ to.builds);
      goes = h.goes;
    }

-- the texts of a new desk, where there was no table
to_newest : (db : Database) → db.schema ≡ no_schema → BuildsTo newest_schema (create_texts Made) db
to_newest db none = record { builds = subst (λ s. Builds s (create_texts Made) newest_schema) (sym none) built; empty = subst (λ (s : Schema). AllByRecursion (λ t. db.trees t.tree ≡ []) s.tables) (sym none) tt }

pub filled : {S : Type 0} (g : Ghosts S) (a b c d : Held S) → Defined g (create_texts Made) a b → Versioned g b c → Step g (map first_tally all_places) c d → Filled g a d
filled g a b c d one two three = record {
  holds = λ (none : a.schema ≡ no_schema). three.holds blank_ledger (two.holds (one.builds newest_schema (to_newest (state g a).now none)));
  order = λ (none : a.schema ≡ no_schema).
      let made = one.builds newest_schema (to_newest (state g a).now none) in
      three.order blank_ledger (two.holds made) ∙ two.order made;
  goes = goes_then g a b d one.goes (goes_then g b c d two.goes three.goes);
}

-- the tables of a version, where there was none
pub made_as : {S : Type 0} (g : Ghosts S) (layout : Layout) (version : Version) (a b : Held S) → Defined g (take (texts_count version) (create_texts layout)) a b → IsLayoutOf layout version → a.schema ≡ no_schema
    → b.schema ≡ schema_of layout version
made_as g layout version a b one fits none =
    let texts = take (texts_count version) (create_texts layout) in
    let to : BuildsTo (schema_of layout version) texts (state g a).now = record {
      builds = subst (λ s. Builds s texts (schema_of layout version)) (sym none) (built_as layout version fits);
      empty = subst (λ (s : Schema). AllByRecursion (λ t. (state g a).now.trees t.tree ≡ []) s.tables) (sym none) tt;
    } in
    (one.builds (schema_of layout version) to).builds
