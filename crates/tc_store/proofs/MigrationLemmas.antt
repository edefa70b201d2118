-- What the text means that names the newest version, and how tables of an earlier one become those of the newest.
use Rattle.std.proofs.Common.{◌≡◌, ℕ, pos, List, [], ◌∷◌, ◌++◌, map, drop, filter, flat_map, cond, None, true, Result, Ok, Err, OnOk, IfOk, refl, sym, ap, subst, ◌∙◌, IsPermutation}
use Rattle.std.specs.List.{AllByRecursion}
use Rattle.sqlite_value.specs.declared.value.Value.TheVariants.{Null, Int}
use Rattle.sqlite_value.specs.Order.{Row, value_cmp}
use Rattle.sqlite_trees.specs.Tree.{Trees, put_row, without_rowid}
use Rattle.sqlite_trees.specs.declared.store.Store.{Ghosts}
use Rattle.sqlite_schema.specs.declared.schema.Keys.TheVariants.{Enforced}
use Rattle.sqlite_schema.specs.declared.schema.Schema.{Schema}
use Rattle.sqlite_schema.specs.declared.program.Program.{Program}
use Rattle.sqlite_schema.specs.declared.command.Command.TheVariants.{Update}
use Rattle.sqlite_sql.specs.Ops.{binary}
use Rattle.sqlite_sql.specs.Term.{Env, eval_all}
use Rattle.sqlite_sql.specs.Query.{IsAnswer, Output, output, output_cmp, page}
use Rattle.sqlite_sql.specs.Program.{overlay}
use Rattle.sqlite_sql.proofs.QueryLemmas.{output_cmp_total}
use Rattle.sqlite_rules.specs.declared.error.Rowids.TheVariants.{Given}
use Rattle.sqlite_rules.specs.Action.{works}
use Rattle.sqlite_rules.specs.Calls.{ids_of}
use Rattle.sqlite_rules.specs.Edit.{edit_of, edited, taken_by, IsNoIndex}
use Rattle.sqlite_keyed.proofs.SortLemmas.{sorted_unique}
use Rattle.sqlite_tied.specs.Compute.{everything}
use Rattle.sqlite.specs.Does.{Tally, Does, OnRows}
use Rattle.sqlite.specs.Effect.{Database}
use Rattle.sqlite.specs.Given.{IsPlain}
use Rattle.sqlite.specs.Listing.{understood}
use Rattle.sqlite.specs.Rows.{Task, Written}
use Rattle.sqlite.specs.State.{State, mode_of, Executes}
use Rattle.sqlite.specs.Held.{Held, state}
use Rattle.sqlite.specs.declared.error.Error.{Error}
use Rattle.sqlite.proofs.Callers.{command_of, statement_of, runs_as, one_step}
use Rattle.tc_store.specs.declared.versions.Layout.TheVariants.{Made, Copied}
use Rattle.tc_store.specs.declared.versions.Layout.{Layout}
use Rattle.tc_store.specs.declared.versions.Version.{Version}
use Rattle.tc_store.specs.declared.versions.Version.TheVariants.{First, Second, Third}
use Rattle.tc_store.specs.Ledgers.{Ledger, newest}
use Rattle.tc_sql.specs.Builds.{Builds}
use Rattle.tc_sql.specs.Contents.{Contents, Matches, are_tables, with_rows}
use Rattle.tc_sql.specs.Forms.{table_of}
use Rattle.tc_sql.specs.Lists.{passes}
use Rattle.tc_sql.specs.Puts.{HasPut}
use Rattle.tc_sql.proofs.Casts.{cast_row_fits}
use Rattle.tc_sql.proofs.Changes.{matches_at, matches_put}
use Rattle.tc_sql.proofs.Parts.{went, same_value}
use Rattle.tc_sql.proofs.Selects.{overlay_none, kept_rows}
use Rattle.tc_store.specs.Meta.{meta_tree, meta_form, meta_update, version_row, update_query, update_columns}
use Rattle.tc_store.specs.Replies.{reply_tree, reply_values}
use Rattle.tc_store.specs.Cargo.{cargo_tree, cargo_values}
use Rattle.tc_sql.specs.Numbered.{numbered}
use Rattle.tc_store.specs.Schema.{missing_texts, schema_of, contents_of, contents, Lacks, HoldsAs, Holds, layout_in}
use Rattle.tc_store.specs.Steps.{Ran, AreOf, IsFilled, Defined, Migrated}
use Rattle.tc_store.proofs.LayoutLemmas.{told_layout, in_each, still_fits, holds_in}
use Rattle.tc_store.proofs.SchemaLemmas.{built_from}
use Rattle.tc_store.proofs.StepLemmas.{goes_then}

-- ---- the text

abbrev program : Program
program = record { lets = []; body = update_query }

update_is : (layout : Layout) → command_of (understood (schema_of layout newest) meta_update) ≡ Update 0 program
unfolding understood everything
update_is Made = refl
update_is (Copied First) = refl
update_is (Copied Second) = refl
update_is (Copied Third) = refl

update_plain : (layout : Layout) → IsPlain (understood (schema_of layout newest) meta_update)
unfolding understood everything
update_plain Made = (refl, refl)
update_plain (Copied First) = (refl, refl)
update_plain (Copied Second) = (refl, refl)
update_plain (Copied Third) = (refl, refl)

quiet : (layout : Layout) (olds news : List Row) → works (schema_of layout newest) Enforced 0 meta_tree olds news ≡ []
unfolding understood everything
quiet layout olds news = refl

-- the row of each version is found
found : (from : Version) → filter (passes update_query.filter []) (version_row from ∷ []) ≡ version_row from ∷ []
unfolding binary value_cmp lib.Ieee.is_nan lib.Ieee.lt
found First = refl
found Second = refl
found Third = refl

-- the newest stands in its place, behind the number of the row
shown : (from : Version) → eval_all update_columns ([] ∷ version_row from ∷ []) ≡ Int (pos 1) ∷ version_row newest
shown from = refl

answers : (db : Trees) (rows : List Row) (from : Version) → IsAnswer update_query (overlay db []) [] rows → db meta_tree ≡ version_row from ∷ [] → rows ≡ (Int (pos 1) ∷ version_row newest) ∷ []
answers db rows from a held =
    let env : Row → Env = λ r. [] ∷ r ∷ [] in
    let there = version_row from in
    let staged : a.staged ≡ env there ∷ [] =
    a.grouped ∙ ap (flat_map (λ r. cond (passes update_query.filter [] r) (env r ∷ []) [])) (overlay_none db meta_tree) ∙ kept_rows (passes update_query.filter []) env (db meta_tree)
    ∙ ap (λ all. map env (filter (passes update_query.filter []) all)) held ∙ ap (map env) (found from) in
    let kept : a.kept ≡ output update_query (env there) ∷ [] = a.distinct ∙ ap (map (output update_query)) staged in
    let ordered : a.ordered ≡ output update_query (env there) ∷ [] =
    sorted_unique (output_cmp update_query) (output_cmp_total update_query) (output update_query (env there) ∷ []) a.ordered (tt, tt) (subst (λ k. IsPermutation k a.ordered) kept a.same) a.sorted in
    a.shown ∙ ap (λ os. page update_query [] (map (λ (o : Output). o.1) os)) ordered ∙ ap (λ r. r ∷ []) (shown from)

-- what it leaves of the one row of `meta`
put_there : (from : Version) → version_row newest ∷ [] ≡ put_row (version_row newest) (version_row from ∷ [])
unfolding value_cmp lib.Ieee.is_nan lib.Ieee.lt
put_there First = refl
put_there Second = refl
put_there Third = refl

gone_there : (from : Version) → without_rowid (pos 1) (version_row from ∷ []) ≡ []
unfolding value_cmp lib.Ieee.is_nan lib.Ieee.lt
gone_there First = refl
gone_there Second = refl
gone_there Third = refl

updates : (layout : Layout) (from : Version) (old new : State) (count : ℕ) → old.now.schema ≡ schema_of layout newest → old.now.trees meta_tree ≡ version_row from ∷ [] → Executes meta_update [] old new (Ok count)
    → HasPut meta_tree (version_row newest) old.now new.now
updates layout from old new count has held h =
    let schema = schema_of layout newest in
    let db = old.now.trees in
    let table = table_of meta_form meta_tree in
    let task : Task = record { limit = old.step_limit; keys = Enforced; schema = schema; table = table; params = [] } in
    let command = Update 0 program in
    let w = runs_as meta_update [] old new schema has command (update_is layout) (update_plain layout) count h in
    let placed = subst (λ s. Does old.step_limit (mode_of old) [] (record old.now { schema = s }) (statement_of meta_update (understood schema meta_update)) None command (Ok (w.tally, new.now))) has w.changed in
    let done : OnRows task (mode_of old) None command db (Ok (w.tally, new.now)) = placed in
    let whole = went done in
    let queried = went whole.1 in
    let shows : queried.0 ≡ (Int (pos 1) ∷ version_row newest) ∷ [] = answers db queried.0 from (queried.1.answer Null) held in
    let put = went queried.2 in
    let edit = edit_of db table (ids_of queried.0) Given 1 queried.0 in
    let step = one_step schema Enforced db put.0 edit (quiet layout (taken_by db edit) edit.news) put.1 in
    let rows : edited db edit ≡ put_row (version_row newest) (db meta_tree) =
    ap (λ all. edited db (edit_of db table (ids_of all) Given 1 all)) shows ∙ ap (λ v. put_row v (without_rowid (pos 1) (db meta_tree))) (cast_row_fits meta_form meta_tree (version_row newest) refl)
    ∙ ap (λ all. put_row (version_row newest) (without_rowid (pos 1) all)) held ∙ ap (put_row (version_row newest)) (gone_there from) ∙ put_there from ∙ ap (put_row (version_row newest)) (sym held) in
    let now : new.now ≡ record { schema = schema; trees = whole.0.trees } = ap (λ (p : Tally × Database). p.1) (same_value (went (went whole.2).2).2) in
    let trees : whole.0.trees ≡ put.0 = ap (λ (one : Written). one.trees) (same_value put.2) in
    let seen : new.now.trees ≡ put.0 = ap (λ (d : Database). d.trees) now ∙ trees in
    record {
      schema = ap (λ (d : Database). d.schema) now ∙ sym has;
      rows = ap (λ (t : Trees). t meta_tree) seen ∙ step.rows ∙ rows;
      others = λ t apart none. ap (λ (all : Trees). all t) seen ∙ step.others t apart (subst (λ s. IsNoIndex s t) has none);
      sound = w.sound;
    }

-- ---- the tables

-- what those of a version have when the missing ones stand behind them: all that the newest has, but for the version
abbrev grown : Layout → Version → Ledger → Contents
grown layout from ledger = (meta_tree, version_row from ∷ []) ∷ drop 1 (contents layout ledger)

abbrev AreBlank : Contents → Type 0
AreBlank more = AllByRecursion (λ (e : ℕ × List Row). e.1 ≡ []) more

-- a table that was made behind, where there is no row of it
no_replies : (layout : Layout) (e : ℕ × List Row) (ledger : Ledger) → e.0 ≡ reply_tree layout → e.1 ≡ [] → ledger.replies ≡ [] → e ≡ (reply_tree layout, numbered (map reply_values ledger.replies))
no_replies layout e ledger tree blank none = λ i. (tree i, (blank ∙ ap (λ replies. numbered (map reply_values replies)) (sym none)) i)

no_cargo : (layout : Layout) (e : ℕ × List Row) (ledger : Ledger) → e.0 ≡ cargo_tree layout → e.1 ≡ [] → ledger.image.cargo ≡ [] → e ≡ (cargo_tree layout, numbered (map cargo_values ledger.image.cargo))
no_cargo layout e ledger tree blank none = λ i. (tree i, (blank ∙ ap (λ cargo. numbered (map cargo_values cargo)) (sym none)) i)

-- those that were made behind are the newest's
more_is : (layout : Layout) (from : Version) (ledger : Ledger) (more : Contents) → Lacks from ledger.image ledger.replies → AreBlank more
    → AreOf (schema_of layout newest).tables (contents_of layout from ledger.image ledger.replies ++ more) → contents_of layout from ledger.image ledger.replies ++ more ≡ grown layout from ledger
more_is layout First ledger [] lacks blank of = absurd of.1.1.1.1.1.1.1.1.1.1.1
more_is layout First ledger (e ∷ []) lacks blank of = absurd of.1.1.1.1.1.1.1.1.1.1.1.1
more_is layout First ledger (e ∷ f ∷ []) lacks blank of =
    let replies = no_replies layout e ledger of.1.1.1.1.1.1.1.1.1.1.1.0 blank.0 lacks.0 in
    let cargo = no_cargo layout f ledger of.1.1.1.1.1.1.1.1.1.1.1.1.0 blank.1.0 lacks.1 in
    λ i. contents_of layout First ledger.image ledger.replies ++ replies i ∷ cargo i ∷ []
more_is layout First ledger (e ∷ f ∷ h ∷ more) lacks blank of = absurd of.1.1.1.1.1.1.1.1.1.1.1.1.1
more_is layout Second ledger [] lacks blank of = absurd of.1.1.1.1.1.1.1.1.1.1.1.1
more_is layout Second ledger (e ∷ []) lacks blank of = ap (λ l. contents_of layout Second ledger.image ledger.replies ++ l ∷ []) (no_cargo layout e ledger of.1.1.1.1.1.1.1.1.1.1.1.1.0 blank.0 lacks)
more_is layout Second ledger (e ∷ f ∷ more) lacks blank of = absurd of.1.1.1.1.1.1.1.1.1.1.1.1.1
more_is layout Third ledger [] lacks blank of = refl
more_is layout Third ledger (e ∷ more) lacks blank of = absurd of.1.1.1.1.1.1.1.1.1.1.1.1.1

all_of : (layout : Layout) (from : Version) (ledger : Ledger) → AreOf (schema_of layout from).tables (contents_of layout from ledger.image ledger.replies)
all_of layout First ledger = (refl, (refl, (refl, (refl, (refl, (refl, (refl, (refl, (refl, (refl, (refl, tt)))))))))))
all_of layout Second ledger = (refl, (refl, (refl, (refl, (refl, (refl, (refl, (refl, (refl, (refl, (refl, (refl, tt))))))))))))
all_of layout Third ledger = (refl, (refl, (refl, (refl, (refl, (refl, (refl, (refl, (refl, (refl, (refl, (refl, (refl, tt)))))))))))))

named_newest : (from : Version) (ledger : Ledger) (layout : Layout) → with_rows meta_tree (version_row newest ∷ []) (grown layout from ledger) ≡ contents layout ledger
named_newest from ledger = in_each _ refl refl refl refl

clear_grown : (from : Version) (ledger : Ledger) (layout : Layout) → are_tables (schema_of layout newest) (grown layout from ledger) ≡ true
clear_grown from ledger = in_each _ refl refl refl refl

-- tables that became the newest's hold what they held, in the order in which they stood
brought : {S : Type 0} (g : Ghosts S) (from : Version) (a b c : Held S) (count : ℕ) → Defined g (missing_texts from) a b → Ran g meta_update [] count b c → (ledger : Ledger) → HoldsAs from (state g a).now ledger
    → Holds (state g c).now ledger × (layout_in (state g c).now ≡ layout_in (state g a).now)
brought g from a b c count one h ledger held =
    let old = (state g a).now in
    let mid = (state g b).now in
    let new = (state g c).now in
    let layout = layout_in old in
    let all = contents_of layout from ledger.image ledger.replies in
    let filled : IsFilled old all = record { of = subst (λ (s : Schema). AreOf s.tables all) (sym held.schema) (all_of layout from ledger); rows = held.rows; sound = held.sound } in
    let behind = one.behind (schema_of layout newest) all (subst (λ s. Builds s (missing_texts from) (schema_of layout newest)) (sym held.schema) (built_from layout from held.fits)) filled in
    let is = more_is layout from ledger behind.more held.lacks behind.blank (subst (λ (s : Schema). AreOf s.tables (all ++ behind.more)) behind.schema behind.filled.of) in
    let rows : Matches mid.trees (grown layout from ledger) = subst (Matches mid.trees) is behind.filled.rows in
    let at = matches_at mid.trees meta_tree (grown layout from ledger) rows refl in
    let put = updates layout from (state g b) (state g c) count behind.schema at.0 h.executes in
    let fits = still_fits layout from held.fits in (
      holds_in layout newest new ledger fits (put.schema ∙ behind.schema) (subst (Matches new.trees) (named_newest from ledger layout) (
          matches_put meta_tree (version_row newest) (version_row newest ∷ []) mid new (grown layout from ledger) put (ap (λ s. are_tables s (grown layout from ledger)) behind.schema ∙ clear_grown from ledger layout)
          (put_there from ∙ ap (put_row (version_row newest)) (sym at.0)) rows)) tt put.sound,
      told_layout layout newest new.schema fits (put.schema ∙ behind.schema),
    )

pub migrated : {S : Type 0} (g : Ghosts S) (from : Version) (a b c : Held S) (r : Result ℕ Error) → Defined g (missing_texts from) a b → IfOk r (λ count. Ran g meta_update [] count b c) → OnOk r (Migrated g from a c)
migrated g from a b c (Err e) one h = tt
migrated g from a b c (Ok count) one h = record {
  holds = λ ledger held. (brought g from a b c count one h ledger held).0;
  order = λ ledger held. (brought g from a b c count one h ledger held).1;
  goes = goes_then g a b c one.goes h.goes;
}
