-- The writing of bytes.
use Rattle.std.specs.Prelude.{◌≡◌, ◌≢◌, ℕ, Option, Result, Ok, Err, OnErr, OnOk, List, [], ◌++◌}
use Rattle.std.specs.Io.KnownBytes.{Appends}
use Rattle.tc_types.specs.declared.counted.Counted.{Counted}
use Rattle.tc_types.specs.declared.counted.Counts.{Counts}
use Rattle.tc_types.specs.Counts.{counts_of, inner_of, no_counts}

-- one write failed
abbrev pub one_fault : Counts
one_fault = record { reads = 0; faults = 1; ends = 0 }

-- the counts of the writer: one write failed where not all was written, and none else
abbrev pub written_counts : {X E : Type 0} → Result X E → Counts
written_counts (Ok answer) = no_counts
written_counts (Err fault) = one_fault

-- a front of these bytes, and not all
abbrev pub IsCutShort : List ℕ → List ℕ → Type 0
IsCutShort bytes part = (rest : List ℕ) × (bytes ≡ part ++ rest) × (rest ≢ [])

-- a counted reader or writer, as its caller sees it: its bytes, where they are known, and its counts
pub record Stream : Type 0 where
  pub bytes : Option (List ℕ)
  pub counts : Counts

abbrev pub seen : {T : Type 0} → (T → Option (List ℕ)) → Counted T → Stream
seen bytes_of counted = record { bytes = bytes_of (inner_of counted); counts = counts_of counted }

-- All of these bytes were written, or one write failed, and a front of them went out, and not all: the counts of a writer that counted nothing
-- before tell which.
pub record Writes {X E : Type 0} (bytes : List ℕ) (old new : Stream) (result : Result X E) : Type 0 where
  pub written : OnOk result (Appends old.bytes new.bytes bytes)
  pub cut : OnErr result ((part : List ℕ) × IsCutShort bytes part × Appends old.bytes new.bytes part)
  pub counted : old.counts ≡ no_counts → new.counts ≡ written_counts result
