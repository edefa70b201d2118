-- In which order the tables of a desk stand in its file, with the index of the moves, and the numbers that tables have by it.
use Rattle.std.specs.Prelude.{ℕ, ◌+◌, ⊤}
use Rattle.tc_store.specs.declared.versions.Version.{Version}
use Rattle.tc_store.specs.declared.versions.Version.TheVariants.{First, Second, Third}
use Rattle.tc_store.specs.declared.versions.Layout.{Layout}
use Rattle.tc_store.specs.declared.versions.Layout.TheVariants.{Made, Copied}

-- Tables of this version may stand so: what was copied was of this version, or of an earlier one, and the tables that it lacked were made behind.
abbrev pub IsLayoutOf : Layout → Version → Type 0
IsLayoutOf Made of = ⊤
IsLayoutOf (Copied First) of = ⊤
IsLayoutOf (Copied Second) First = ⊥
IsLayoutOf (Copied Second) Second = ⊤
IsLayoutOf (Copied Second) Third = ⊤
IsLayoutOf (Copied Third) First = ⊥
IsLayoutOf (Copied Third) Second = ⊥
IsLayoutOf (Copied Third) Third = ⊤

-- the number of a table behind the moves: one more where the index stands before it
abbrev pub past_moves : Layout → ℕ → ℕ
past_moves Made n = n + 1
past_moves (Copied of) n = n

-- the same of a table that the second version adds
abbrev pub past_records : Layout → ℕ → ℕ
past_records Made n = n + 1
past_records (Copied First) n = n + 1
past_records (Copied Second) n = n
past_records (Copied Third) n = n

-- and of one that the third adds
abbrev pub past_replies : Layout → ℕ → ℕ
past_replies Made n = n + 1
past_replies (Copied First) n = n + 1
past_replies (Copied Second) n = n + 1
past_replies (Copied Third) n = n
