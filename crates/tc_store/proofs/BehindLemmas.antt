-- A table or an index that is made behind tables that have rows: they keep them, and a new table has none.
use Rattle.std.proofs.Common.{◌≡◌, ◌⊎◌, inl, inr, ℕ, List, [], ◌∷◌, ◌++◌, false, None, Ok, refl, sym, ap, subst, ◌∙◌, append-nil}
use Rattle.sqlite_value.specs.Order.{Row}
use Rattle.sqlite_trees.specs.Tree.{Trees}
use Rattle.sqlite_schema.specs.declared.schema.Table.{Table}
use Rattle.sqlite_schema.specs.declared.schema.Schema.{Schema}
use Rattle.sqlite_schema.specs.declared.command.Command.TheVariants.{CreateTable, CreateIndex}
use Rattle.sqlite_catalog.specs.Change.{created, indexed, next_tree, KeepsRows}
use Rattle.sqlite.specs.Does.{Tally, AtPlace, Defines, MakesIndex, lacks_sequence}
use Rattle.sqlite.specs.Effect.{Database}
use Rattle.sqlite.specs.State.{State, mode_of, Writes, Executes}
use Rattle.sqlite.proofs.Callers.{runs_as}
use Rattle.tc_sql.specs.Builds.{DefinesTable, DefinesIndex}
use Rattle.tc_sql.specs.Contents.{Contents, Matches}
use Rattle.tc_sql.proofs.Parts.{went, same_value}
use Rattle.tc_store.specs.Steps.{AreOf, IsFilled, HasBehind}

still_matches : (old new : Trees) (tables : List Table) (all : Contents) → AreOf tables all → KeepsRows tables old new → Matches old all → Matches new all
still_matches old new [] [] of kept it = tt
still_matches old new [] (e ∷ all) of kept it = absurd of
still_matches old new (t ∷ tables) [] of kept it = tt
still_matches old new (t ∷ tables) (e ∷ all) of kept it = ((ap new of.0 ∙ kept.0 ∙ ap old (sym of.0) ∙ it.0.0, it.0.1), still_matches old new tables all of.1 kept.1 it.1)

one_behind : (db : Trees) (all : Contents) (tree : ℕ) → Matches db all → db tree ≡ [] → Matches db (all ++ (tree, []) ∷ [])
one_behind db [] tree it none = ((none, tt), tt)
one_behind db (e ∷ all) tree it none = (it.0, one_behind db all tree it.1 none)

-- one table more, and what it has
of_more : (tables : List Table) (all : Contents) (table : Table) (rows : List Row) → AreOf tables all → AreOf (tables ++ table ∷ []) (all ++ (table.tree, rows) ∷ [])
of_more [] [] table rows of = (refl, tt)
of_more [] (e ∷ all) table rows of = absurd of
of_more (t ∷ tables) [] table rows of = absurd of
of_more (t ∷ tables) (e ∷ all) table rows of = (of.0, of_more tables all table rows of.1)

table_behind : (after : Schema) (text : List ℕ) (all : Contents) (old new : State) (count : ℕ) → DefinesTable text old.now.schema after → IsFilled old.now all → Executes text [] old new (Ok count) → HasBehind after all new.now
table_behind after text all old new count it filled h =
    let w = subst (λ t. Writes old new None CreateTable t [] count) it.whole (runs_as text [] old new old.now.schema refl CreateTable it.command it.plain count h) in
    let done = went w.changed in
    let first = went done.1 in
    let made = first.1 in
    let both : Ok made.table ≡ Ok it.table = sym made.defined ∙ it.defined in
    let same : made.table ≡ it.table = cc in
    let schema : first.0.schema ≡ after = made.is ∙ ap (created old.now.schema) same ∙ sym it.is in
    let plain : lacks_sequence first.0.schema ≡ false = ap lacks_sequence schema ∙ it.uncounted in
    let now : new.now ≡ first.0 = ap (λ (p : Tally × Database). p.1) (same_value done.2) ∙ same_value (rw plain at first.2) in
    let tree = next_tree old.now.schema in
    let rows : Matches first.0.trees (all ++ (tree, []) ∷ []) = one_behind first.0.trees all tree (still_matches old.now.trees first.0.trees old.now.schema.tables all filled.of made.others filled.rows) made.empty in
    let of : AreOf first.0.schema.tables (all ++ (tree, []) ∷ []) =
    subst (λ (s : Schema). AreOf s.tables (all ++ (tree, []) ∷ [])) (sym made.is) (of_more old.now.schema.tables all (record made.table { tree = tree }) [] filled.of) in
    record {
      schema = ap (λ (d : Database). d.schema) now ∙ schema;
      more = (tree, []) ∷ [];
      blank = (refl, tt);
      filled = record {
        of = subst (λ (d : Database). AreOf d.schema.tables (all ++ (tree, []) ∷ [])) (sym now) of;
        rows = subst (λ (d : Database). Matches d.trees (all ++ (tree, []) ∷ [])) (sym now) rows;
        sound = w.sound;
      };
    }

index_behind : (after : Schema) (text : List ℕ) (all : Contents) (old new : State) (count : ℕ) → DefinesIndex text old.now.schema after → IsFilled old.now all → Executes text [] old new (Ok count) → HasBehind after all new.now
index_behind after text all old new count it filled h =
    let w = subst (λ t. Writes old new None (CreateIndex it.at) t [] count) it.whole (runs_as text [] old new old.now.schema refl (CreateIndex it.at) it.command it.plain count h) in
    let on : Defines (mode_of old) (MakesIndex text old.now it.table) (Ok (w.tally, new.now)) =
    subst (λ o. AtPlace (λ table. Defines (mode_of old) (MakesIndex text old.now table)) o (Ok (w.tally, new.now))) it.listed w.changed in
    let done = went on in
    let made = done.1 in
    let both : Ok made.index ≡ Ok it.index = sym made.defined ∙ it.defined in
    let same : made.index ≡ it.index = cc in
    let schema : done.0.schema ≡ after = made.is ∙ ap (indexed old.now.schema it.table) same ∙ sym it.is in
    let now : new.now ≡ done.0 = ap (λ (p : Tally × Database). p.1) (same_value done.2) in
    let rows : Matches done.0.trees all = still_matches old.now.trees done.0.trees old.now.schema.tables all filled.of made.rows filled.rows in
    let of : AreOf done.0.schema.tables all = subst (λ (s : Schema). AreOf s.tables all) (sym made.is) filled.of in
    record {
      schema = ap (λ (d : Database). d.schema) now ∙ schema;
      more = [];
      blank = tt;
      filled = subst (IsFilled new.now) (sym (append-nil all)) (record {
        of = subst (λ (d : Database). AreOf d.schema.tables all) (sym now) of;
        rows = subst (λ (d : Database). Matches d.trees all) (sym now) rows;
        sound = w.sound;
      });
    }

pub makes_behind : (after : Schema) (text : List ℕ) (all : Contents) (old new : State) (count : ℕ) → DefinesTable text old.now.schema after ⊎ DefinesIndex text old.now.schema after → IsFilled old.now all
    → Executes text [] old new (Ok count) → HasBehind after all new.now
makes_behind after text all old new count (inl table) filled h = table_behind after text all old new count table filled h
makes_behind after text all old new count (inr index) filled h = index_behind after text all old new count index filled h
