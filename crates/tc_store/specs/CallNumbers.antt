-- The number that a caller gives an act or a load.
use Rattle.std.specs.Prelude.{ℕ, ◌<◌, ◌^◌}

-- any number of its width but 0
abbrev pub IsCallNumber : ℕ → Type 0
IsCallNumber n = (0 < n) × (n < 2 ^ 32)
