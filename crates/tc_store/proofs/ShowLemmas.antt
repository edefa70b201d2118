-- What is read of rows is what they show, and what a text that reads all rows of a table answers.
use Rattle.std.proofs.Common.{◌≡◌, ℕ, ◌+◌, ◌<◌, suc, arith, pos, codes, List, [], ◌∷◌, ◌++◌, map, take, flat_map, cond, length, get_or, refl, sym, ap, ap₂, subst, ◌∙◌}
use Rattle.std.specs.List.{AllByRecursion}
use Rattle.std.specs.List.Sorted.{IsPermutation}
use Rattle.std.proofs.lemmas.List.{map-append, length-map, take_more}
use Rattle.std.proofs.lemmas.List.Sorted.{IsPermutation-map, All-permutation}
use Rattle.std.proofs.lemmas.List.Elements.{All-from_recursion, recursion_from_All}
use Rattle.sqlite_value.specs.declared.value.Value.{Value}
use Rattle.sqlite_value.specs.declared.value.Value.TheVariants.{Null, Int, Text}
use Rattle.sqlite_value.specs.Order.{Row, column}
use Rattle.sqlite_trees.specs.Tree.{Trees}
use Rattle.sqlite_sql.specs.Term.{Term, Env, eval}
use Rattle.sqlite_sql.specs.Query.{Query, IsAnswer, Output, output}
use Rattle.sqlite_sql.specs.Program.{overlay}
use Rattle.sqlite_keyed.proofs.ListLemmas.{all-append, all_weaker, map-map}
use Rattle.sqlite.specs.Command.TheVariants.{Select}
use Rattle.sqlite.specs.State.{State, Shown}
use Rattle.sqlite.proofs.Callers.{reads_as}
use Rattle.tc_sql.specs.Lists.{listing, passes, no_limit, ListsFrom}
use Rattle.tc_sql.proofs.Selects.{listed, kept_rows, overlay_none}
use Rattle.tc_store.specs.declared.versions.Layout.{Layout}
use Rattle.tc_store.specs.declared.versions.Version.{Version}
use Rattle.tc_store.specs.Schema.{schema_of}
use Rattle.tc_store.specs.Meta.{meta_tree, version_number, version_shown}
use Rattle.tc_store.specs.Loads.{all_version_text, all_version_columns}
use Rattle.tc_store.specs.Shows.{shown_of, ShowsRows}
use Rattle.tc_store.proofs.LoadLemmas.{all_at, filter_true}
use Rattle.tc_store.proofs.TextLemmas.{all_version_is}

-- ---- a row is its columns

-- it has these values from a place on
abbrev pub HasFrom : Row → ℕ → Row → Type 0
HasFrom row at [] = Unit {0}
HasFrom row at (v ∷ vs) = (column row at ≡ v) × HasFrom row (suc at) vs

one_on : (first : Value) (row : Row) (at : ℕ) (values : Row) → HasFrom (first ∷ row) (suc at) values → HasFrom row at values
one_on first row at [] has = tt
one_on first row at (v ∷ vs) has = (has.0, one_on first row (suc at) vs has.1)

pub whole_row : (row values : Row) → length row ≡ length values → HasFrom row 0 values → row ≡ values
whole_row [] [] long has = refl
whole_row [] (v ∷ vs) long has = absurd (omega (arith, long))
whole_row (r ∷ row) [] long has = absurd (omega (arith, long))
whole_row (r ∷ row) (v ∷ vs) long has = ap₂ (λ a b. a ∷ b) has.0 (whole_row row vs (omega (arith, long)) (one_on r row 0 vs has.1))

-- ---- one row more was read

-- each row has as many columns as show what it is read as
abbrev pub AreWide : {X : Type 0} → (X → Row) → List Row → Type 0
AreWide {X} shown rows = AllByRecursion (λ (row : Row). (x : X) → length row ≡ length (shown x)) rows

pub shown_more : {X : Type 0} (shown : X → Row) (rows : List Row) (items : List X) (k : ℕ) (d : Row) (x : X) → k < length rows → AreWide shown rows
    → (length (get_or rows k d) ≡ length (shown x) → get_or rows k d ≡ shown x) → take k rows ≡ map shown items → take (k + 1) rows ≡ map shown (items ++ x ∷ [])
shown_more shown rows items k d x within wide reads so_far =
    let row : get_or rows k d ≡ shown x = reads (all_at _ rows k d within wide x) in
    take_more rows k d within ∙ ap₂ (λ a b. a ++ b ∷ []) so_far row ∙ sym (map-append shown items (x ∷ []))

pub told_more : {X : Type 0} (Told : X → Type 0) (items : List X) (x : X) → AllByRecursion Told items → Told x → AllByRecursion Told (items ++ x ∷ [])
told_more Told items x all last = all-append Told items (x ∷ []) all (last, tt)

-- ---- what a text that reads all rows answers

module _ (tree : ℕ) (columns : List Term) where
  any_order : (db : Trees) (rows : List Row) → IsAnswer (listing tree [] columns no_limit) (overlay db []) [] rows → IsPermutation (map (shown_of columns) (db tree)) rows
  any_order db rows a =
      let rowed : Row → Env = λ r. [] ∷ r ∷ [] in
      let shows : Query = listing tree [] columns no_limit in
      let staged : a.staged ≡ map rowed (db tree) =
      a.grouped ∙ ap (flat_map (λ r. cond (passes [] [] r) (rowed r ∷ []) [])) (overlay_none db tree) ∙ kept_rows (passes [] []) rowed (db tree) ∙ ap (map rowed) (filter_true (db tree)) in
      let kept : a.kept ≡ map (λ r. output shows (rowed r)) (db tree) = a.distinct ∙ ap (map (output shows)) staged ∙ map-map (output shows) rowed (db tree) in
      let values : map (λ (o : Output). o.1) a.kept ≡ map (shown_of columns) (db tree) = ap (map (λ (o : Output). o.1)) kept ∙ map-map (λ (o : Output). o.1) (λ r. output shows (rowed r)) (db tree) in
      subst (λ l. IsPermutation l rows) values (subst (IsPermutation (map (λ (o : Output). o.1) a.kept)) (sym a.shown) (IsPermutation-map (λ (o : Output). o.1) a.kept a.ordered a.same))

  pub all_shown : (layout : Layout) (version : Version) (text : List ℕ) (old new : State) → old.now.schema ≡ schema_of layout version → ListsFrom (schema_of layout version) tree text [] columns no_limit → (rows : List Row) → Shown text [] old new rows
      → ShowsRows (old.now.trees tree) columns rows
  all_shown layout version text old new has it rows h =
      let read = reads_as text [] old new (schema_of layout version) has (Select (record { lets = []; body = listing tree [] columns no_limit }) it.names) it.command it.plain it.unlisted rows h in
      record {
        all = any_order old.now.trees rows (read.answer Null);
        order = λ table. listed tree [] columns no_limit [] (schema_of layout version) text old new has it rows table h ∙ ap (map (shown_of columns)) (filter_true (old.now.trees tree));
      }

-- so what is read of them are the rows of the table
pub map_all : {X Y : Type 0} (f : X → Y) (P : Y → Type 0) → ((x : X) → P (f x)) → (xs : List X) → AllByRecursion P (map f xs)
map_all f P each [] = tt
map_all f P each (x ∷ xs) = (each x, map_all f P each xs)

-- what columns show has as many values as there are columns
pub shown_wide : {X : Type 0} (columns : List Term) (shown : X → Row) → ((x : X) → length (shown x) ≡ length columns) → (rows : List Row) → AreWide shown (map (shown_of columns) rows)
shown_wide columns shown wide rows = map_all (shown_of columns) _ (λ row x. length-map columns (λ t. eval t ([] ∷ row ∷ [])) ∙ sym (wide x)) rows

pub table_shown_in : {X : Type 0} (tree : ℕ) (columns : List Term) (shown : X → Row) → ((x : X) → length (shown x) ≡ length columns) → (text : List ℕ) (layout : Layout) (version : Version) → ListsFrom (schema_of layout version) tree text [] columns no_limit
    → (old new : State) (rows seen : List Row) (items : List X) → seen ≡ rows → (AreWide shown seen → seen ≡ map shown items) → Shown text [] old new rows → old.now.schema ≡ schema_of layout version
    → ShowsRows (old.now.trees tree) columns (map shown items)
table_shown_in {X} tree columns shown wide text layout version it old new rows seen items same reads h has =
    let all = all_shown tree columns layout version text old new has it rows h in
    let P : Row → Type 0 = λ row. (x : X) → length row ≡ length (shown x) in
    let fits : AreWide shown rows = recursion_from_All P rows (All-permutation P (map (shown_of columns) (old.now.trees tree)) rows all.all (All-from_recursion P _ (shown_wide columns shown wide (old.now.trees tree)))) in
    subst (ShowsRows (old.now.trees tree) columns) (sym same ∙ reads (subst (AreWide shown) (sym same) fits)) all

-- so it is in each version, where each has the table
pub table_shown : {X : Type 0} (tree : Layout → ℕ) (columns : List Term) (shown : X → Row) → ((x : X) → length (shown x) ≡ length columns) → (text : List ℕ)
    → ((layout : Layout) (version : Version) → ListsFrom (schema_of layout version) (tree layout) text [] columns no_limit) → (old new : State) (rows seen : List Row) (items : List X) → seen ≡ rows
    → (AreWide shown seen → seen ≡ map shown items) → Shown text [] old new rows → (layout : Layout) (version : Version) → old.now.schema ≡ schema_of layout version
    → ShowsRows (old.now.trees (tree layout)) columns (map shown items)
table_shown tree columns shown wide text it old new rows seen items same reads h layout version has =
    table_shown_in (tree layout) columns shown wide text layout version (it layout version) old new rows seen items same reads h has

-- the one row of `meta`
pub one_version : (of : Version) (rows : List Row) (d : Row) → length rows ≡ 1 → (column (get_or rows 0 d) 0 ≡ Text (codes "schema")) × (column (get_or rows 0 d) 1 ≡ Int (pos (version_number of))) → AllByRecursion (λ (row : Row). length row ≡ 2) rows
    → rows ≡ version_shown of ∷ []
one_version of [] d long named wide = absurd (omega (arith, long))
one_version of (row ∷ []) d long named wide = ap (λ r. r ∷ []) (whole_row row (version_shown of) wide.0 (named.0, (named.1, tt)))
one_version of (row ∷ other ∷ rows) d long named wide = absurd (omega (arith, long))

pub version_is : (of : Version) (old new : State) (rows seen : List Row) → seen ≡ rows → (AllByRecursion (λ (row : Row). length row ≡ 2) seen → seen ≡ version_shown of ∷ []) → Shown all_version_text [] old new rows → (layout : Layout) (version : Version)
    → old.now.schema ≡ schema_of layout version
    → ShowsRows (old.now.trees meta_tree) all_version_columns (version_shown of ∷ [])
version_is of old new rows seen same told h layout version has =
    table_shown (λ _. meta_tree) all_version_columns (λ (_ : ℕ). version_shown of) (λ _. refl) all_version_text all_version_is old new rows seen (0 ∷ []) same
    (λ wide. told (all_weaker _ (λ (row : Row). length row ≡ 2) (λ row w. w 0) seen wide)) h layout version has
