-- The randomizer: one octet more, and twice is nothing.
use Rattle.std.proofs.Common.{◌≡◌, ℕ, ◌+◌, ◌<◌, ◌≤◌, List, [], ◌∷◌, ◌++◌, take, drop, length, get_or, set, refl, sym, ap, ◌∙◌, add-one}
use Rattle.std.proofs.Common.{arith}
use Rattle.std.specs.Prelude.{bit_xor}
use Rattle.std.specs.Int.Bits.{xor_assoc, xor_self, xor_zero_r}
use Rattle.std.proofs.lemmas.List.{take_all, drop_all, append-nil, take_more_set, drop-set-lt, drop_more, append_assoc}
use Rattle.tc_octets.specs.Randomizer.{window_step, windows, next_octet, randomized, randomized_from}

pub more : (n window : ℕ) → windows (n + 1) window ≡ windows n (window_step window)
more n window = ap (λ k. windows k window) (add-one n)

pub none : (window : ℕ) → windows 0 window ≡ window
none window = refl

-- the octet of now is done
pub octet_randomized : (window i : ℕ) (octets : List ℕ) → i < length octets
    → take i octets ++ randomized_from window (drop i octets)
    ≡ take (i + 1) (set octets i (bit_xor (get_or octets i 0) window))
    ++ randomized_from (next_octet window) (drop (i + 1) (set octets i (bit_xor (get_or octets i 0) window)))
octet_randomized window i octets h =
    let done = take_more_set octets i (bit_xor (get_or octets i 0) window) h in
    let rest : drop (i + 1) (set octets i (bit_xor (get_or octets i 0) window)) ≡ drop (i + 1) octets =
    drop-set-lt (i + 1) octets i (bit_xor (get_or octets i 0) window) (omega arith) in
    rw (done, rest, drop_more octets i 0 h)
    (sym (append_assoc (take i octets) (bit_xor (get_or octets i 0) window ∷ []) (randomized_from (next_octet window) (drop (i + 1) octets))))

-- the sequence laid over octets twice is nothing
pub twice_from : (window : ℕ) (octets : List ℕ) → randomized_from window (randomized_from window octets) ≡ octets
twice_from window [] = refl
twice_from window (octet ∷ octets) =
    ap (λ n. n ∷ randomized_from (next_octet window) (randomized_from (next_octet window) octets))
    (xor_assoc octet window window ∙ ap (λ n. bit_xor octet n) (xor_self window) ∙ xor_zero_r octet)
    ∙ ap (λ l. octet ∷ l) (twice_from (next_octet window) octets)

pub twice : (octets : List ℕ) → randomized (randomized octets) ≡ octets
twice octets = twice_from 255 octets

-- all octets are done
pub all_randomized : (window i : ℕ) (octets : List ℕ) → length octets ≤ i → take i octets ++ randomized_from window (drop i octets) ≡ octets
all_randomized window i octets h = rw (take_all i octets h, drop_all i octets h) (append-nil octets)

pub undone : (before after : List ℕ) → after ≡ randomized before → randomized after ≡ before
undone before after e = ap (λ (l : List ℕ). randomized l) e ∙ twice before
