-- The randomizer of telecommand frames (CCSDS 231.0-B): x^8 + x^6 + x^4 + x^3 + x^2 + x + 1, preset ones.
use Rattle.std.specs.Prelude.{ℕ, zero, suc, ◌+◌, ◌*◌, ◌/◌, ◌%◌, List, [], ◌∷◌, bit_xor}

-- Eight bits of the sequence, s(n) the highest of them and s(n + 7) the lowest. The next is s(n + 6) + s(n + 4) + s(n + 3) + s(n + 2) + s(n + 1) +
-- s(n).
unfoldable pub window_step : ℕ → ℕ
window_step window =
    window % 128 * 2 + (window / 128 % 2 + window / 64 % 2 + window / 32 % 2 + window / 16 % 2 + window / 8 % 2 + window / 2 % 2) % 2

-- the window so many bits later
abbrev pub windows : ℕ → ℕ → ℕ
windows zero window = window
windows (suc n) window = windows n (window_step window)

unfoldable pub next_octet : ℕ → ℕ
next_octet window = windows 8 window

-- octets with the sequence laid over them, from this octet of it on
abbrev pub randomized_from : ℕ → List ℕ → List ℕ
randomized_from window [] = []
randomized_from window (octet ∷ octets) = bit_xor octet window ∷ randomized_from (next_octet window) octets

-- the sequence begins with ones
abbrev pub randomized : List ℕ → List ℕ
randomized octets = randomized_from 0xff octets
