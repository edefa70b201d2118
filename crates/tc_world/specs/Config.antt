-- What may be chosen of a link.
use Rattle.std.specs.Prelude.{ℕ, ◌≤◌, Option, Some, None}
use Rattle.tc_farm.specs.Farm.{IsWindowWidth}
use Rattle.tc_world.specs.declared.configs.Config.{Config}
use Rattle.tc_world.specs.declared.configs.TheConstants.{GREATEST_RING}

-- links that are lists, or rings of 1 to GREATEST_RING items
abbrev pub IsRing : Option ℕ → Type 0
IsRing None = Unit {0}
IsRing (Some size) = (1 ≤ size) × (size ≤ GREATEST_RING)

-- what may be chosen: W even, 2 to 254, a channel of 6 bits, and the links
abbrev pub IsConfig : Config → Type 0
IsConfig config = IsWindowWidth config.window × (config.channel ≤ 63) × IsRing config.ring
