-- What a counted reader or writer has counted.
use Rattle.std.specs.Prelude.{ℕ, ◌+◌, ◌-◌, ◌<◌, ◌^◌, ◌==◌, ◌&&◌, Bool, nat_lt, if◌then◌else◌, Result, Ok, Err}
use Rattle.tc_types.specs.declared.counted.Counts.{Counts}
use Rattle.tc_types.specs.declared.counted.Counted.{Counted}

-- the counts of a counted reader or writer
abbrev pub counts_of : {T : Type 0} → Counted T → Counts
counts_of counted = counted.counts

-- the reader or writer that is counted
abbrev pub inner_of : {T : Type 0} → Counted T → T
inner_of counted = counted.inner

-- nothing was read, and nothing failed
abbrev pub no_counts : Counts
no_counts = record { reads = 0; faults = 0; ends = 0 }

-- no count is at its greatest value
pub record CanCount (counts : Counts) : Type 0 where
  pub reads : counts.reads < 2 ^ 64 - 1
  pub faults : counts.faults < 2 ^ 64 - 1
  pub ends : counts.ends < 2 ^ 64 - 1

-- this count, one greater where this happened
abbrev pub plus_if : ℕ → Bool → ℕ
plus_if count happened = if happened then count + 1 else count

-- whether nothing went through, though there was room for it
abbrev pub is_nothing : ℕ → ℕ → Bool
is_nothing moved room = moved == 0 && nat_lt 0 room

-- The counts after a read into a buffer of so many bytes: one more read; one more fault where it failed; one more end
-- where it gave nothing, though the buffer was not empty.
abbrev pub after_read : {E : Type 0} → Counts → ℕ → Result ℕ E → Counts
after_read counts room (Ok given) = record { reads = counts.reads + 1; faults = counts.faults; ends = plus_if counts.ends (is_nothing given room) }
after_read counts room (Err error) = record { reads = counts.reads + 1; faults = counts.faults + 1; ends = counts.ends }

-- The counts after a write of so many bytes: one more fault where it failed, or took nothing of a buffer that was not
-- empty.
abbrev pub after_write : {E : Type 0} → Counts → ℕ → Result ℕ E → Counts
after_write counts room (Ok taken) = record { reads = counts.reads; faults = plus_if counts.faults (is_nothing taken room); ends = counts.ends }
after_write counts room (Err error) = record { reads = counts.reads; faults = counts.faults + 1; ends = counts.ends }
