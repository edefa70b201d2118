-- A chain of CREATE TABLE and CREATE INDEX, run one text after another, makes the schema that the chain leads to, with no row in any table.
use Rattle.std.proofs.Common.{◌≡◌, inl, inr, ℕ, List, [], ◌∷◌, ◌++◌, false, None, Ok, Err, Result, OnOk, refl, sym, ap, subst, ◌∙◌}
use Rattle.std.specs.List.{AllByRecursion}
use Rattle.sqlite.specs.Table.{Table}
use Rattle.sqlite.specs.Schema.{Schema}
use Rattle.sqlite.specs.Command.TheVariants.{CreateTable, CreateIndex}
use Rattle.sqlite.specs.Change.{created, indexed, next_tree, KeepsRows}
use Rattle.sqlite.specs.Does.{Tally, AtPlace, Defines, MakesIndex, lacks_sequence}
use Rattle.sqlite.specs.Tree.{Trees}
use Rattle.sqlite.specs.declared.error.Error.{Error}
use Rattle.sqlite.specs.Effect.{Database}
use Rattle.sqlite.specs.State.{State, mode_of, Writes, Executes}
use Rattle.sqlite.proofs.Callers.{runs_as}
use Rattle.tc_sql.specs.Builds.{DefinesTable, DefinesIndex, Builds, AreEmpty, BuildsTo}
use Rattle.tc_sql.proofs.Parts.{went, same_value}

-- tables that were empty and were kept are empty, and one more may stand behind them
still_empty : (old new : Trees) (tables : List Table) → KeepsRows tables old new → AllByRecursion (λ t. old t.tree ≡ []) tables → AllByRecursion (λ t. new t.tree ≡ []) tables
still_empty old new [] kept none = tt
still_empty old new (t ∷ ts) kept none = (kept.0 ∙ none.0, still_empty old new ts kept.1 none.1)

one_more : (db : Trees) (tables : List Table) (table : Table) → AllByRecursion (λ t. db t.tree ≡ []) tables → db table.tree ≡ [] → AllByRecursion (λ t. db t.tree ≡ []) (tables ++ table ∷ [])
one_more db [] table none last = (last, tt)
one_more db (t ∷ ts) table none last = (none.0, one_more db ts table none.1 last)

creates_table : (after : Schema) (text : List ℕ) (old new : State) (count : ℕ) → AreEmpty old.now → DefinesTable text old.now.schema after → Executes text [] old new (Ok count)
    → (new.now.schema ≡ after) × AreEmpty new.now
creates_table after text old new count empty it h =
    let w = subst (λ t. Writes old new None CreateTable t [] count) it.whole (runs_as text [] old new old.now.schema refl CreateTable it.command it.plain count h) in
    let all = went w.changed in
    let first = went all.1 in
    let made = first.1 in
    let both : Ok made.table ≡ Ok it.table = sym made.defined ∙ it.defined in
    let same : made.table ≡ it.table = cc in
    let schema : first.0.schema ≡ after = made.is ∙ ap (created old.now.schema) same ∙ sym it.is in
    let plain : lacks_sequence first.0.schema ≡ false = ap lacks_sequence schema ∙ it.uncounted in
    let now : new.now ≡ first.0 = ap (λ (p : Tally × Database). p.1) (same_value all.2) ∙ same_value (rw plain at first.2) in
    let rows = one_more first.0.trees old.now.schema.tables (record made.table { tree = next_tree old.now.schema }) (still_empty old.now.trees first.0.trees old.now.schema.tables made.others empty) made.empty in
    let there : AreEmpty first.0 = subst (λ (s : Schema). AllByRecursion (λ t. first.0.trees t.tree ≡ []) s.tables) (sym made.is) rows in
    (ap (λ (d : Database). d.schema) now ∙ schema, subst AreEmpty (sym now) there)

creates_index : (after : Schema) (text : List ℕ) (old new : State) (count : ℕ) → AreEmpty old.now → DefinesIndex text old.now.schema after → Executes text [] old new (Ok count)
    → (new.now.schema ≡ after) × AreEmpty new.now
creates_index after text old new count empty it h =
    let w = subst (λ t. Writes old new None (CreateIndex it.at) t [] count) it.whole (runs_as text [] old new old.now.schema refl (CreateIndex it.at) it.command it.plain count h) in
    let on : Defines (mode_of old) (MakesIndex text old.now it.table) (Ok (w.tally, new.now)) =
    subst (λ o. AtPlace (λ table. Defines (mode_of old) (MakesIndex text old.now table)) o (Ok (w.tally, new.now))) it.listed w.changed in
    let all = went on in
    let made = all.1 in
    let both : Ok made.index ≡ Ok it.index = sym made.defined ∙ it.defined in
    let same : made.index ≡ it.index = cc in
    let schema : all.0.schema ≡ after = made.is ∙ ap (indexed old.now.schema it.table) same ∙ sym it.is in
    let now : new.now ≡ all.0 = ap (λ (p : Tally × Database). p.1) (same_value all.2) in
    let there : AreEmpty all.0 =
    subst (λ (s : Schema). AllByRecursion (λ t. all.0.trees t.tree ≡ []) s.tables) (sym made.is) (still_empty old.now.trees all.0.trees old.now.schema.tables made.rows empty) in
    (ap (λ (d : Database). d.schema) now ∙ schema, subst AreEmpty (sym now) there)

-- one text of the chain is run
pub makes : (after : Schema) (text : List ℕ) (texts : List (List ℕ)) (old new : State) (r : Result ℕ Error) → BuildsTo after (text ∷ texts) old.now → Executes text [] old new r
    → OnOk r (BuildsTo after texts new.now)
makes after text texts old new (Err e) to h = tt
makes after text texts old new (Ok count) to h =
    let made : (new.now.schema ≡ to.builds.0) × AreEmpty new.now = elim to.builds.1 [
      | inl table ↦ creates_table to.builds.0 text old new count to.empty table h
      | inr index ↦ creates_index to.builds.0 text old new count to.empty index h
    ] in
    record { builds = subst (λ s. Builds s texts after) (sym made.0) to.builds.2; empty = made.1 }
