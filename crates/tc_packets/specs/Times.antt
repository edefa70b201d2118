-- Times on board (CCSDS 301.0-B, the unsegmented time code CUC): no preamble, four octets of seconds since the link's epoch, and two of fraction if
-- times are fine.
use Rattle.std.specs.Prelude.{◌≡◌, ℕ, ℤ, pos, negsuc, ◌+◌, ◌-◌, ◌^◌, ◌<◌, ◌≤ℤ◌, min, Bool, if◌then◌else◌, Option, Some, None, List, [], ◌∷◌, ◌++◌}
use Rattle.std.specs.Prelude.{length, take}
use Rattle.tc_types.specs.Limits.{last_moment}
use Rattle.tc_types.specs.Numbers.{IsMoment}
use Rattle.tc_octets.specs.declared.profiles.Profile.{Profile}
use Rattle.tc_packets.specs.OctetFields.{quad}

-- the octets of a fraction of a second, of which this link makes no use: 0 if written, and ignored if read
abbrev pub fraction_length : Bool → ℕ
fraction_length fine = if fine then 2 else 0

abbrev pub fraction : Bool → List ℕ
fraction fine = if fine then 0 ∷ 0 ∷ [] else []

-- how many octets a time, or an offset, has
abbrev pub time_length : Profile → ℕ
time_length profile = 4 + fraction_length profile.fine

-- octets of so many seconds, with any fraction
pub record HasSeconds (profile : Profile) (octets : List ℕ) (seconds : ℕ) : Type 0 where
  pub size : length octets ≡ time_length profile
  pub whole : take 4 octets ≡ quad seconds

-- ---- absolute times

-- The seconds on board of a Unix second that is not before the epoch. Leap seconds are not counted.
abbrev pub seconds_since : ℤ → ℕ → ℕ
seconds_since (pos epoch) moment = moment - epoch
seconds_since (negsuc before) moment = moment + before + 1

-- A moment has octets: it is not before the epoch, and its seconds need no more than four octets.
pub record HasTime (epoch : ℤ) (moment : ℕ) : Type 0 where
  pub ranged : IsMoment moment
  pub begun : epoch ≤ℤ pos moment
  pub few : seconds_since epoch moment < 2 ^ 32

abbrev pub time_of : Profile → ℕ → List ℕ
time_of profile moment = quad (seconds_since profile.epoch moment) ++ fraction profile.fine

-- the octets are this time, with any fraction
abbrev pub IsTime : Profile → List ℕ → ℕ → Type 0
IsTime profile octets moment = HasTime profile.epoch moment × HasSeconds profile octets (seconds_since profile.epoch moment)

-- What a reader says of the octets of a time: the moment, or that they are none.
abbrev pub ReadsTime : Profile → List ℕ → Option ℕ → Type 0
ReadsTime profile octets (Some moment) = IsTime profile octets moment
ReadsTime profile octets None = (moment : ℕ) → ¬ IsTime profile octets moment

-- ---- offsets

-- a number of 32 bits in two's complement
abbrev pub complement : ℤ → ℕ
complement (pos seconds) = seconds
complement (negsuc below) = 2 ^ 32 - 1 - below

-- an offset that four octets have in two's complement
pub record FitsOffset (offset : ℤ) : Type 0 where
  pub least : negsuc 2147483647 ≤ℤ offset
  pub most : offset ≤ℤ pos 2147483647

abbrev pub offset_of : Profile → ℤ → List ℕ
offset_of profile offset = quad (complement offset) ++ fraction profile.fine

-- the octets are this offset, with any fraction
abbrev pub IsOffsetOf : Profile → List ℕ → ℤ → Type 0
IsOffsetOf profile octets offset = FitsOffset offset × HasSeconds profile octets (complement offset)

-- What a reader says of the octets of an offset: any such octets are one.
abbrev pub ReadsOffset : Profile → List ℕ → Option ℤ → Type 0
ReadsOffset profile octets (Some offset) = IsOffsetOf profile octets offset
ReadsOffset profile octets None = ⊥

-- ---- the clock on board

-- the earliest moment that has octets, and the latest
abbrev pub first_on_board : ℤ → ℕ
first_on_board (pos epoch) = epoch
first_on_board (negsuc before) = 0

abbrev pub last_on_board : ℤ → ℕ
last_on_board (pos epoch) = min last_moment (epoch + (2 ^ 32 - 1))
last_on_board (negsuc before) = min last_moment (2 ^ 32 - 2 - before)
