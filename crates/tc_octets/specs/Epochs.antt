-- The epochs that time on board may have (this project's own).
use Rattle.std.specs.Prelude.{ℤ, pos, negsuc, ◌≤ℤ◌}

-- Unix seconds from 1 January 1958 to 31 December 2099
abbrev pub IsEpoch : ℤ → Type 0
IsEpoch seconds = (negsuc 378691199 ≤ℤ seconds) × (seconds ≤ℤ pos 4102444799)
