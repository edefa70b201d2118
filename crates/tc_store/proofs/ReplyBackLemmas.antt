-- The rows of replies that a desk could have kept are read, or memory was refused.
use Rattle.std.proofs.Common.{◌≡◌, ℕ, zero, suc, pos, List, [], ◌∷◌, drop, map, filter, find, cond, Bool, true, false, Option, Some, None, slice_get, refl, sym, ap, subst, ◌∙◌}
use Rattle.std.specs.List.{AllByRecursion}
use Rattle.sqlite_value.specs.declared.value.Value.TheVariants.{Int, Text}
use Rattle.sqlite_value.specs.Order.{Row, column}
use Rattle.tc_store.specs.Ledgers.{KeptAnswer, IsKeptAnswer}
use Rattle.tc_store.specs.Replies.{reply_values}

-- a row whose last three columns are a reply's shows its columns
pub columns_of : (row : Row) (k : KeptAnswer) → drop 1 row ≡ reply_values k → (column row 1 ≡ Text k.person) × (column row 2 ≡ Int (pos k.number)) × (column row 3 ≡ Text k.body)
columns_of [] k is = absurd (let e = is in cc)
columns_of (r ∷ rest) k is = (ap (λ (l : Row). column l 0) is, ap (λ (l : Row). column l 1) is, ap (λ (l : Row). column l 2) is)
