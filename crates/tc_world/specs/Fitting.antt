-- Windows that fit: K is at most half of the FARM's window. Then the whole session lies within that half, and the FARM
-- meets no frame outside its window.
use Rattle.std.specs.Prelude.{◌≡◌, ℕ, ◌/◌, ◌≤◌, true, false}
use Rattle.tc_world.specs.Abstraction.{Bare}
use Rattle.tc_world.specs.Kept.{IsSane}

-- PW = NW = W / 2
abbrev pub half_window : Bare → ℕ
half_window w = w.farm.window / 2

-- What stands between two events where K fitted at every moment so far.
pub record IsFitting (w : Bare) : Type 0 where
  pub k : w.fop.k ≤ half_window w
  pub sane : IsSane (half_window w) w
  pub open_farm : w.farm.lockout ≡ false

-- the same, as a claim
abbrev pub IsFit : Bare → Type 0
IsFit w = w.clean ≡ true → w.fits ≡ true → IsFitting w

-- where K fitted at every moment so far, it fits now
abbrev pub IsNarrow : Bare → Type 0
IsNarrow w = w.fits ≡ true → w.fop.k ≤ half_window w
