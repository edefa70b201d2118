-- The rows of several tables, each named by its tree.
use Rattle.std.specs.Prelude.{◌≡◌, ℕ, Bool, false, not, ◌||◌, ◌==◌, if◌then◌else◌, List, [], ◌∷◌}
use Rattle.std.specs.List.{AllByRecursion, list_any, list_all}
use Rattle.sqlite_value.specs.Order.{Row}
use Rattle.sqlite_trees.specs.Tree.{Trees, IsTable}
use Rattle.sqlite_schema.specs.declared.schema.Schema.{Schema}

-- a tree and its rows
abbrev pub Contents : Type 0
Contents = List (ℕ × List Row)

-- each of these trees has these rows, whose rowids rise
abbrev pub Matches : Trees → Contents → Type 0
Matches trees all = AllByRecursion (λ (e : ℕ × List Row). (trees e.0 ≡ e.1) × IsTable e.1) all

abbrev pub has_tree : ℕ → Contents → Bool
has_tree tree [] = false
has_tree tree (e ∷ all) = (e.0 == tree) || has_tree tree all

abbrev pub rows_in : ℕ → Contents → List Row
rows_in tree [] = []
rows_in tree (e ∷ all) = if e.0 == tree then e.1 else rows_in tree all

-- the same, but that this tree has these rows
abbrev pub with_rows : ℕ → List Row → Contents → Contents
with_rows tree rows [] = []
with_rows tree rows (e ∷ all) = (e.0, if e.0 == tree then rows else e.1) ∷ with_rows tree rows all

-- none of the trees is an index
abbrev pub are_tables : Schema → Contents → Bool
are_tables schema all = list_all (λ (e : ℕ × List Row). not (list_any (λ i. i.tree == e.0) schema.indexes)) all
