-- Two epochs for worked cases.
use Rattle.std.proofs.Common.{pos}
use lib.Signed.{le_z_yes}
use Rattle.tc_octets.specs.Epochs.{IsEpoch}

-- 1 January 1970 and 6 January 1980
pub from_1970 : IsEpoch (pos 0)
from_1970 = (le_z_yes tt, le_z_yes tt)

pub from_1980 : IsEpoch (pos 315964800)
from_1980 = (le_z_yes tt, le_z_yes tt)
