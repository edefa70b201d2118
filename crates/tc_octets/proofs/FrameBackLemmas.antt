-- A frame comes back through its CLTU and the randomizer.
use Rattle.std.proofs.Common.{◌≡◌, ℕ, ◌+◌, ◌-◌, ◌*◌, ◌%◌, ◌^◌, ◌≤◌, Bool, true, false, List, [], ◌∷◌, ◌++◌, take, length, get_or, replicate}
use Rattle.std.proofs.Common.{refl, sym, ap, ◌∙◌, arith}
use Rattle.std.specs.Prelude.{bit_xor}
use Rattle.std.proofs.lemmas.List.{length-append, length-replicate, get_or_append_left, take_at}
use Rattle.tc_octets.specs.Randomizer.{randomized, randomized_from, next_octet}
use Rattle.tc_octets.specs.Cltus.{IsFrameIn, told_length, filled_of, turned_by}
use Rattle.tc_octets.proofs.RandomizerLemmas.{twice}
use Rattle.tc_octets.proofs.CltuRunLemmas.{randomized_length}

-- the sequence laid over two lists, one after the other
randomized_append : (window : ℕ) (a b : List ℕ) → (later : ℕ)
    × (randomized_from window (a ++ b) ≡ randomized_from window a ++ randomized_from later b)
randomized_append window [] b = (window, refl)
randomized_append window (x ∷ a) b =
    let rest = randomized_append (next_octet window) a b in
    (rest.0, ap (λ l. bit_xor x window ∷ l) rest.1)

-- With the randomizer undone the frame stands at the front, and as many octets after it as there are of fill.
pub filled_back : (randomizer : Bool) (frame : List ℕ)
    → (fill : List ℕ) × (turned_by randomizer (filled_of randomizer frame) ≡ frame ++ fill) × (length fill ≡ (7 - length frame % 7) % 7)
filled_back false frame = (replicate ((7 - length frame % 7) % 7) 0x55, refl, length-replicate {A = ℕ} ((7 - length frame % 7) % 7) 0x55)
filled_back true frame =
    let parts = randomized_append 0xff (randomized frame) (replicate ((7 - length (randomized frame) % 7) % 7) 0x55) in (
      randomized_from parts.0 (replicate ((7 - length (randomized frame) % 7) % 7) 0x55),
      parts.1 ∙ ap (λ l. l ++ randomized_from parts.0 (replicate ((7 - length (randomized frame) % 7) % 7) 0x55)) (twice frame),
      randomized_length parts.0 (replicate ((7 - length (randomized frame) % 7) % 7) 0x55)
          ∙ length-replicate {A = ℕ} ((7 - length (randomized frame) % 7) % 7) 0x55
          ∙ ap (λ n. (7 - n % 7) % 7) (randomized_length 0xff frame),
    )

-- the frame length field is the frame's own
front_told : (frame fill : List ℕ) → 5 ≤ length frame → told_length (frame ++ fill) ≡ told_length frame
front_told frame fill h =
    ap (λ n. (n * 256 + get_or (frame ++ fill) 3 0) % 2 ^ 10 + 1) (get_or_append_left frame fill 0 2 (omega arith))
    ∙ ap (λ n. (get_or frame 2 0 * 256 + n) % 2 ^ 10 + 1) (get_or_append_left frame fill 0 3 (omega arith))

pub frame_in : (frame fill : List ℕ) → 5 ≤ length frame → told_length frame ≡ length frame → length fill ≤ 6 → IsFrameIn (frame ++ fill) frame
frame_in frame fill h told few =
    let says : told_length (frame ++ fill) ≡ length frame = front_told frame fill h ∙ told in
    let size = length-append frame fill in
    record {
      has = record { header = omega (arith, size); whole = omega (arith, size, says); fill = omega (arith, size, says) };
      is = sym (ap (λ n. take n (frame ++ fill)) says ∙ take_at frame fill (length frame) refl);
    }
