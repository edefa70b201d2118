-- The reading of a script that is too long.
use Rattle.std.proofs.Common.{◌≡◌, ◌+◌, ◌-◌, ◌*◌, ◌<◌, ◌≤◌, ℕ, Option, List, ◌++◌, refl, arith, length, take}
use Rattle.std.proofs.lemmas.List.{length-append}
use Rattle.std.specs.Io.KnownBytes.{Consumes}
use Rattle.std.proofs.KnownBytes.{Consumes-trans}
use Rattle.tc_types.specs.declared.counted.Counts.{Counts}
use Rattle.tc_types.specs.Counts.{CanCount, is_nothing, plus_if}
use Rattle.tc_closed.specs.Scripts.{IsTooLong}

-- the reads after one more
read_once : (old new : Counts) (room count turns : ℕ) → old ≡ record { reads = turns; faults = 0; ends = 0 } → turns < 100000
    → (CanCount old → new ≡ record { reads = old.reads + 1; faults = old.faults; ends = plus_if old.ends (is_nothing count room) }) → new.reads ≡ turns + 1
read_once old new room count turns are few counted =
    let can : CanCount old = rw are (record { reads = omega arith; faults = omega arith; ends = omega arith }) in
    let same : new ≡ record { reads = old.reads + 1; faults = old.faults; ends = plus_if old.ends (is_nothing count room) } = counted can in
    rw same (rw are refl)

-- what was read, with these bytes, is more than a script may have
pub too_long : (old new : Counts) (a b c : Option (List ℕ)) (text buffer : List ℕ) (room count turns : ℕ)
    → old ≡ record { reads = turns; faults = 0; ends = 0 } → turns < 100000 → (CanCount old → new ≡ record { reads = old.reads + 1; faults = old.faults; ends = plus_if old.ends (is_nothing count room) })
    → Consumes a b text → Consumes b c (take count buffer) → count ≡ length (take count buffer)
    → count ≤ 4096 → length text ≤ 4096 * turns → length text ≤ 1048576 → 1048576 - length text < count
    → IsTooLong new a c
too_long old new a b c text buffer room count turns are few counted taken more has small each short over =
    let one : new.reads ≡ turns + 1 = read_once old new room count turns are few counted in
    let all : length (text ++ take count buffer) ≡ length text + length (take count buffer) = length-append text (take count buffer) in
    record {
      text = text ++ take count buffer;
      taken = Consumes-trans a b c text (take count buffer) taken more;
      long = omega arith;
      reads = omega arith;
    }
