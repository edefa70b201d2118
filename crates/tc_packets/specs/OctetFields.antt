-- Numbers as octets, the most significant first.
use Rattle.std.specs.Prelude.{ℕ, ◌+◌, ◌*◌, ◌/◌, ◌%◌, ◌^◌, List, ◌++◌}
use Rattle.tc_octets.specs.Bits.{pair, pair_at}

-- a number below 2 ^ 32 as four octets
abbrev pub quad : ℕ → List ℕ
quad number = pair (number / 2 ^ 16) ++ pair (number % 2 ^ 16)

-- the number that four octets are
abbrev pub quad_at : List ℕ → ℕ → ℕ
quad_at octets at = pair_at octets at * 2 ^ 16 + pair_at octets (at + 2)
