-- Why the values of a row are not read: over what the desk wrote, only because memory was refused.
use Rattle.std.proofs.Common.{◌≡◌, ◌≢◌, ◌<◌, ◌≤◌, ◌↔◌, ◌⊎◌, inl, inr, ℕ, zero, suc, Bool, true, false, arith, List, [], ◌∷◌, length, Option, Some, None, IfSome, refl, sym, ap, subst, ◌∙◌}
use Rattle.std.specs.Str.{IsUtf8}
use Rattle.tc_types.specs.Names.{IsName}
use Rattle.tc_types.proofs.NameLaws.{IsUtf8-name}
use Rattle.tc_store.specs.Records.{second_text}
use Rattle.sqlite_value.specs.declared.value.Value.{Value}
use Rattle.sqlite_value.specs.declared.value.Value.TheVariants.{Null}
use Rattle.sqlite_value.specs.Order.{Row, column}
use Rattle.sqlite.specs.Reading.{IsReadError}
use Rattle.sqlite.specs.declared.error.Error.{Error}
use Rattle.sqlite.specs.declared.error.Error.TheVariants.{SqliteFailure, InvalidColumnIndex, InvalidColumnType, IntegralValueOutOfRange, Utf8Error}
use Rattle.sqlite.specs.declared.error.ErrorCode.TheVariants.{OutOfMemory}

-- a column that shows something stands in the row
pub stands : (row : Row) (at : ℕ) → column row at ≢ Null → at < length row
stands [] at shows = absurd (shows refl)
stands (v ∷ row) zero shows = omega (arith)
stands (v ∷ row) (suc at) shows = let more : at < length row = stands row at shows in omega (arith, more)

-- what reads fails only for want of memory
pub only_memory : (at : ℕ) (value : Value) (e : Error) (Reads : Type 0) → (e ≢ SqliteFailure OutOfMemory → ¬ Reads) → IsReadError at value e → Reads → e ≡ SqliteFailure OutOfMemory
only_memory at value e Reads kind (inl index) reads = absurd (kind (λ is. absurd (let f = sym index ∙ is in cc)) reads)
only_memory at value e Reads kind (inr (inl type)) reads = absurd (kind (λ is. absurd (let f = sym type ∙ is in cc)) reads)
only_memory at value e Reads kind (inr (inr (inl range))) reads = absurd (kind (λ is. absurd (let f = sym range ∙ is in cc)) reads)
only_memory at value e Reads kind (inr (inr (inr (inl utf8)))) reads = absurd (kind (λ is. absurd (let f = sym utf8 ∙ is in cc)) reads)
only_memory at value e Reads kind (inr (inr (inr (inr memory)))) reads = memory

-- the second person is a text
pub utf8_second : (was : Option (List ℕ)) → IfSome was IsName → IsUtf8 (second_text was)
utf8_second None named = ([], (refl, refl))
utf8_second (Some name) named = IsUtf8-name name named
