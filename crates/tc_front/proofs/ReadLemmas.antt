-- One read more, and what all of the input decides.
use Rattle.std.proofs.Common.{◌≡◌, ◌≢◌, ◌∙◌, ◌+◌, ◌<◌, ◌≤◌, Option, Some, None, IfSome, List, ◌++◌, ℕ, ap, length, min, refl, take, arith}
use Rattle.std.specs.Prelude.{Result, Ok, Err, OnErr}
use Rattle.std.proofs.lemmas.Bool.{ne_eqb}
use Rattle.std.proofs.lemmas.List.{length-append, length-take}
use Rattle.std.specs.Io.KnownBytes.{Consumes}
use Rattle.std.proofs.KnownBytes.{Consumes-trans}
use Rattle.tc_types.specs.declared.counted.Counts.{Counts}
use Rattle.tc_types.specs.Counts.{CanCount, is_nothing, plus_if}
use Rattle.tc_front.specs.declared.watch.Watch.{Watch}
use Rattle.tc_front.specs.Front.{Asked, IsDecided, Waits}
use Rattle.tc_front.specs.Read.{CanGoOn, NoFront}
use Rattle.tc_front.specs.Watch.{Watches}
use Rattle.tc_front.proofs.FrontLemmas.{decided-append, waits_fronts}
use Rattle.tc_front.proofs.WantedLemmas.{watches_more}

-- what is decided of the front that was taken is decided of all that the reader had
pub decides_input : (a b : Option (List ℕ)) (text : List ℕ) → Consumes a b text → (d : Asked) → IsDecided text d → IfSome a (λ input. IsDecided input d)
decides_input None b text taken d h = tt
decides_input (Some xs) None text taken d h = absurd taken
decides_input (Some xs) (Some ys) text taken d h = rw taken (decided-append text ys d h)

pub on_err : {X E : Type 0} (r : Result X E) (P : Type 0) → P → OnErr r P
on_err (Ok x) P p = tt
on_err (Err e) P p = p

-- the text is as it was
pub fronts_kept : (old now : List ℕ) → now ≡ old → Waits old → NoFront now
fronts_kept old now is waits = rw is (waits_fronts old waits)

-- the text with what was read
pub consumes_more : (a b c : Option (List ℕ)) (old kept taken now : List ℕ) → kept ≡ old → now ≡ kept ++ taken → Consumes a b old → Consumes b c taken → Consumes a c now
consumes_more a b c old kept taken now is longer before more = rw longer (rw is (Consumes-trans a b c old taken before more))

pub watches_read : (watch : Watch) (old kept taken now seen : List ℕ) → kept ≡ old → now ≡ kept ++ taken → seen ≡ now → Watches watch old → Watches watch seen
watches_read watch old kept taken now seen is longer same watches = rw same (rw longer (rw is (watches_more watch old taken watches)))

-- one that can go on has counts that go on
pub can_count : (counts : Counts) → CanGoOn counts → CanCount counts
can_count counts going = record { reads = omega (arith, going.reads); faults = omega (arith, going.faults); ends = omega (arith, going.ends) }

-- the counts after a read that gave something
pub read_counts : (old now : Counts) (room count : ℕ) → CanGoOn old → count ≢ 0
    → (CanCount old → now ≡ record { reads = old.reads + 1; faults = old.faults; ends = plus_if old.ends (is_nothing count room) }) → now ≡ record { reads = old.reads + 1; faults = 0; ends = 0 }
read_counts old now room count going some counted =
    counted (can_count old going) ∙ rw (ne_eqb count 0 some, going.faults, going.ends) refl

-- each read gave a byte at least, so that the text has as many as there were reads
pub goes_on : (old now : Counts) (before kept buffer : List ℕ) (count : ℕ) (after : List ℕ) → now ≡ record { reads = old.reads + 1; faults = 0; ends = 0 }
    → old.reads ≤ length before → kept ≡ before → after ≡ kept ++ take count buffer → count ≤ length buffer → count ≢ 0 → length after < 73728
    → (now.reads ≤ length after) × CanGoOn now
goes_on old now before kept buffer count after are longer same is bound some short =
    let long : length after ≡ length kept + length (take count buffer) = ap length is ∙ length-append kept (take count buffer) in
    let old_length : length kept ≡ length before = ap length same in
    let given : length (take count buffer) ≡ min count (length buffer) = length-take count buffer in
    let more : now.reads ≡ old.reads + 1 = ap (λ (c : Counts). c.reads) are in
    (omega arith, record { faults = ap (λ (c : Counts). c.faults) are; ends = ap (λ (c : Counts). c.ends) are; reads = omega arith })
