-- What a SELECT over one table in the order of its rowid lists.
use Rattle.std.proofs.Common.{◌≡◌, inl, inr, IsTrue, ℕ, nat_le, nat_lt, ◌^◌, ◌==◌, pos, List, [], ◌∷◌, ◌++◌, unwrap_or, map, filter, take, flat_map, Bool, true, false, cond, Some, None, refl, sym, ap, subst, ◌∙◌, arith, is_eq, is_gt, IsPermutation}
use Rattle.std.proofs.lemmas.Bool.Decides.{nat_tests}
use Rattle.std.specs.declared.cmp.Ordering.TheVariants.{Less}
use Rattle.std.specs.Ordering.{nat_cmp}
use Rattle.sqlite_value.specs.declared.value.Value.TheVariants.{Null, Int}
use Rattle.sqlite_value.specs.declared.keys.Collation.TheVariants.{Binary}
use Rattle.sqlite_value.specs.Order.{Row, value_cmp}
use Rattle.sqlite_value.proofs.OrderLemmas.{value_cmp-Int, then-Equal}
use Rattle.sqlite_trees.specs.Tree.{Trees, rowid, IsTable, IsAscending}
use Rattle.sqlite_sql.specs.declared.ops.BinaryOp.TheVariants.{Compare}
use Rattle.sqlite_sql.specs.declared.ops.CompareOp.TheVariants.{Eq, Gt}
use Rattle.sqlite_sql.specs.Ops.{binary, is_true, from_truth}
use Rattle.sqlite_sql.specs.Term.{Term, Env, eval, eval_all}
use Rattle.sqlite_sql.specs.Query.{Query, IsAnswer, Output, output, output_cmp, page, limited, as_count}
use Rattle.sqlite_sql.specs.Program.{overlay}
use Rattle.sqlite_sql.proofs.QueryLemmas.{output_cmp_total}
use Rattle.sqlite_keyed.proofs.ListLemmas.{map-map, filter-map, filter_same, map_same, ascending-map, ascending-filter, ascending_weaker}
use Rattle.sqlite_keyed.proofs.SortLemmas.{sorted_unique}
use Rattle.sqlite.specs.Schema.{Schema}
use Rattle.sqlite.specs.Command.TheVariants.{Select}
use Rattle.sqlite.specs.State.{State, Shown, FailsToQuery, IsNotRun, Survives, CommitsShowing}
use Rattle.sqlite.specs.Listing.{understood}
use Rattle.sqlite.specs.declared.error.Error.{Error}
use Rattle.sqlite.proofs.StateLemmas.{survives_weaker}
use Rattle.sqlite.proofs.Callers.{IsPlain, reads_as, never_commits}
use Rattle.tc_sql.specs.Lists.{listing, passes, ListsFrom}
use Rattle.tc_sql.proofs.Keys.{int_cmp-pos, eq_of}

-- ---- how numbers compare

truth_of : (b : Bool) → is_true (from_truth (Some b)) ≡ b
truth_of true = refl
truth_of false = refl

gt_of : (m n : ℕ) → is_gt (nat_cmp m n) ≡ nat_lt n m
gt_of m n = grind (arith, nat_tests)

-- column = ?
pub equal_numbers : (m n : ℕ) → is_true (binary (Compare Eq Binary) (Int (pos m)) (Int (pos n))) ≡ (m == n)
unfolding binary
equal_numbers m n = truth_of _ ∙ ap is_eq (value_cmp-Int (pos m) (pos n) ∙ int_cmp-pos m n) ∙ eq_of m n

-- column > ?
pub above_number : (m n : ℕ) → is_true (binary (Compare Gt Binary) (Int (pos m)) (Int (pos n))) ≡ nat_lt n m
unfolding binary
above_number m n = truth_of _ ∙ ap is_gt (value_cmp-Int (pos m) (pos n) ∙ int_cmp-pos m n) ∙ gt_of m n

-- ---- the answer

no_overlay : (b : Bool) (db : Trees) (t : ℕ) → unwrap_or (cond b None None) (db t) ≡ db t
no_overlay true db t = refl
no_overlay false db t = refl

pub overlay_none : (db : Trees) (t : ℕ) → overlay db [] t ≡ db t
overlay_none db t = no_overlay (nat_le (2 ^ 31) t) db t

pub kept_rows : {A B : Type 0} (p : A → Bool) (f : A → B) (xs : List A) → flat_map (λ x. cond (p x) (f x ∷ []) []) xs ≡ map f (filter p xs)
kept_rows p f [] = refl
kept_rows {A} {B} p f (x ∷ xs) = go (p x) (kept_rows p f xs)
  where
    go : (b : Bool) → flat_map (λ y. cond (p y) (f y ∷ []) []) xs ≡ map f (filter p xs) → cond b (f x ∷ []) [] ++ flat_map (λ y. cond (p y) (f y ∷ []) []) xs ≡ map f (cond b (x ∷ filter p xs) (filter p xs))
    go true h = ap (λ l. f x ∷ l) h
    go false h = h

module _ (tree : ℕ) (tests columns : List Term) (most : Term) (params : Row) where
  abbrev env : Row → Env
  env r = params ∷ r ∷ []

  abbrev q : Query
  q = listing tree tests columns most

  abbrev pub shown_row : Row → Row
  shown_row r = eval_all columns (params ∷ r ∷ [])

  rises : (rows : List Row) → IsTable rows → IsAscending (λ a b. output_cmp q a b ≡ Less) (map (λ r. output q (env r)) (filter (passes tests params) rows))
  rises rows table =
      ascending-map (λ a b. output_cmp q a b ≡ Less) (λ r. output q (env r)) (filter (passes tests params) rows)
      (ascending_weaker (λ a b. value_cmp (rowid a) (rowid b) ≡ Less) (λ a b. output_cmp q (output q (env a)) (output q (env b)) ≡ Less) (λ a b h. then-Equal (value_cmp (rowid a) (rowid b)) ∙ h) _
      (ascending-filter (λ a b. value_cmp (rowid a) (rowid b) ≡ Less) (passes tests params) rows table))

  answers : (db : Trees) (rows : List Row) → IsTable (db tree) → IsAnswer q (overlay db []) params rows → rows ≡ page q params (map shown_row (filter (passes tests params) (db tree)))
  answers db rows table a =
      let found = filter (passes tests params) (db tree) in
      let staged : a.staged ≡ map env found =
      a.grouped ∙ ap (flat_map (λ r. cond (passes tests params r) (env r ∷ []) [])) (overlay_none db tree) ∙ kept_rows (passes tests params) env (db tree) in
      let kept : a.kept ≡ map (λ r. output q (env r)) found = a.distinct ∙ ap (map (output q)) staged ∙ map-map (output q) env found in
      let ordered : a.ordered ≡ map (λ r. output q (env r)) found =
      sorted_unique (output_cmp q) (output_cmp_total q) (map (λ r. output q (env r)) found) a.ordered (rises (db tree) table) (subst (λ k. IsPermutation k a.ordered) kept a.same) a.sorted in
      a.shown ∙ ap (λ os. page q params (map (λ (o : Output). o.1) os)) ordered ∙ ap (page q params) (map-map (λ (o : Output). o.1) (λ r. output q (env r)) found)

  pub listed : (schema : Schema) (text : List ℕ) (old new : State) → old.now.schema ≡ schema → ListsFrom schema tree text tests columns most → (rows : List Row) → IsTable (old.now.trees tree)
      → Shown text params old new rows → rows ≡ page q params (map shown_row (filter (passes tests params) (old.now.trees tree)))
  listed schema text old new has it rows table h =
      let read = reads_as text params old new schema has (Select (record { lets = []; body = q }) it.names) it.command it.plain it.unlisted rows h in
      answers old.now.trees rows table (read.answer Null)

  -- the same of a tree that holds the rows of values
  pub listed_as : {X : Type 0} (row shown : X → Row) (pass : X → Bool) (xs : List X) (db : Trees) → db tree ≡ map row xs → ((x : X) → passes tests params (row x) ≡ pass x) → ((x : X) → shown_row (row x) ≡ shown x)
      → map shown_row (filter (passes tests params) (db tree)) ≡ map shown (filter pass xs)
  listed_as row shown pass xs db held same showed =
      ap (λ rows. map shown_row (filter (passes tests params) rows)) held ∙ ap (map shown_row) (filter-map (passes tests params) row xs) ∙ map-map shown_row row (filter (λ x. passes tests params (row x)) xs)
      ∙ ap (map (λ x. shown_row (row x))) (filter_same (λ x. passes tests params (row x)) pass same xs) ∙ map_same (λ x. shown_row (row x)) shown showed (filter pass xs)

  -- of these, a LIMIT that is a number gives the first so many
  pub paged : {Y : Type 0} (n : ℕ) (xs : List Y) → eval most (params ∷ []) ≡ Int (pos n) → page q params xs ≡ take n xs
  paged n xs is = ap (λ v. limited (as_count v) xs) is

-- ---- a SELECT changes nothing and commits nothing

module _ (text : List ℕ) (params : Row) (old new : State) (schema : Schema) (has : old.now.schema ≡ schema) (plain : IsPlain (understood schema text)) where
  pub unchanged : (rows : List Row) → Shown text params old new rows → new.now ≡ old.now
  unfolding Shown
  unchanged rows h =
      let known = sym h.1.is ∙ ap (λ s. understood s text) has in
      let bare = subst IsPlain (sym known) plain in
      (rw (bare.0) at h.2).3.0.now_is

  -- one that fails leaves what is committed, where the connection is open
  pub fails_unchanged : (e : Error) → (IsTrue old.is_open → old.now ≡ old.committed) → FailsToQuery text params old new e → IsTrue new.is_open → new.now ≡ old.now
  unfolding FailsToQuery IsNotRun
  fails_unchanged e settled (inl (inl none)) stays = none.1.0.now_is
  fails_unchanged e settled (inl (inr fails)) stays = (fails.3.undone stays).0 ∙ sym (settled (fails.3.was_open stays))
  fails_unchanged e settled (inr h) stays =
      let known = sym h.1.is ∙ ap (λ s. understood s text) has in
      let bare = subst IsPlain (sym known) plain in
      (rw (bare.0) at h.2).3.0.now_is

  pub commits_nothing : Survives old new (CommitsShowing text params old) → Survives old new (λ _. ⊥)
  commits_nothing = survives_weaker old new (CommitsShowing text params old) (λ _. ⊥) (λ _ db. never_commits text params old db (subst (λ s. IsPlain (understood s text)) (sym has) plain))
