-- Telemetry frames behind attached sync markers (CCSDS 131.0-B), as they are found in a stream of octets.
use Rattle.std.specs.Prelude.{◌≡◌, ℕ, zero, suc, ◌+◌, ◌-◌, ◌<◌, ◌==◌, nat_le, nat_lt, if◌then◌else◌, ◌&&◌, ◌||◌, Bool, true, false, List, [], ◌∷◌}
use Rattle.std.specs.Prelude.{◌++◌, length, take, drop, slice_index}
use Rattle.tc_octets.specs.Bits.{pair_at}
use Rattle.tc_octets.specs.Crc.{crc_of}
use Rattle.tc_octets.specs.TmFrames.{tm_scid_in, tm_version_in}
use Rattle.tc_octets.specs.declared.profiles.Profile.{Profile}

-- the attached sync marker
abbrev pub marker : List ℕ
marker = 0x1a ∷ 0xcf ∷ 0xfc ∷ 0x1d ∷ []

-- whether the octet at this place is the marker's, or has not come
abbrev pub fits : List ℕ → ℕ → ℕ → Bool
fits octets place mark = nat_le (length octets) place || (slice_index octets place == mark)

-- whether a marker begins with the first of these octets, as far as they have come
unfoldable pub may_begin : List ℕ → Bool
may_begin octets = fits octets 0 0x1a && (fits octets 1 0xcf && (fits octets 2 0xfc && fits octets 3 0x1d))

abbrev pub check_holds : Bool → List ℕ → Bool
check_holds fecf octets = if fecf then pair_at octets (length octets - 2) == crc_of (take (length octets - 2) octets) else true

-- whether octets are a frame of this link, by its length, its check, its version and its spacecraft
unfoldable pub is_tm_frame : Profile → List ℕ → Bool
is_tm_frame profile octets =
    (length octets == profile.tm.length) && (check_holds profile.tm.fecf octets &&
    ((tm_version_in octets == 0) && (tm_scid_in octets == profile.scid)))

-- the frames of a stream, and the octets at its end that wait for more
pub record Heard : Type 0 where
  pub frames : List (List ℕ)
  pub waits : List ℕ

abbrev pub waiting : List ℕ → Heard
waiting octets = record { frames = []; waits = octets }

abbrev pub first_heard : List ℕ → Heard → Heard
first_heard frame rest = record { frames = frame ∷ rest.frames; waits = rest.waits }

-- the octets of a frame behind a marker
abbrev pub behind : Profile → List ℕ → List ℕ
behind profile octets = take profile.tm.length (drop 4 octets)

-- What is heard from a place on. Where a marker begins, all waits until a whole frame may stand behind it. If it is one, it is given out, and the
-- search goes on after it; else the search goes on at the next octet.
abbrev pub from_place : Profile → List ℕ → Heard → Heard → Heard
from_place profile octets next after =
    if may_begin octets
    then (if nat_lt (length octets) (profile.tm.length + 4)
    then waiting octets
    else (if is_tm_frame profile (behind profile octets) then first_heard (behind profile octets) after else next))
    else next

-- what is heard in a stream, after so many octets of it that are passed over
unfoldable pub heard : Profile → ℕ → List ℕ → Heard
heard profile passed [] = waiting []
heard profile (suc passed) (octet ∷ rest) = heard profile passed rest
heard profile zero (octet ∷ rest) = from_place profile (octet ∷ rest) (heard profile 0 rest) (heard profile (profile.tm.length + 3) rest)

-- ---- the receiver

-- what a receiver is set to, and what its last octet brought: the frame that ended with it, and the octets that wait
pub record Listener : Type 0 where
  pub profile : Profile
  pub last : Heard

abbrev pub silent : Profile → Listener
silent profile = record { profile = profile; last = waiting [] }

-- The next octet comes behind those that wait.
abbrev pub after : Listener → ℕ → Listener
after listener octet = record { profile = listener.profile; last = heard listener.profile 0 (listener.last.waits ++ octet ∷ []) }

-- octets from the first place on where a marker may begin
abbrev pub from_marker : List ℕ → List ℕ
from_marker [] = []
from_marker (octet ∷ octets) = if may_begin (octet ∷ octets) then octet ∷ octets else from_marker octets

-- what octets are, with a whole frame behind their marker or waiting for it
abbrev pub heard_in : Bool → List ℕ → Heard
heard_in true octets = record { frames = drop 4 octets ∷ []; waits = [] }
heard_in false octets = waiting octets

-- octets that wait: fewer than a marker and a frame, and they begin as a marker does
pub record IsWaiting (profile : Profile) (octets : List ℕ) : Type 0 where
  pub few : length octets < profile.tm.length + 4
  pub begun : may_begin octets ≡ true

-- ---- what holds of streams

-- A receiver that has what waits after a stream has, after one octet more, what waits then; and it gives what is heard beside the frames before.
-- So it hears what is in the stream, however that is cut into pieces.
pub record GoesOn (old new : Listener) (octet : ℕ) : Type 0 where
  pub hears : (stream : List ℕ) → old.last.waits ≡ (heard old.profile 0 stream).waits
      → heard old.profile 0 (stream ++ octet ∷ [])
      ≡ record { frames = (heard old.profile 0 stream).frames ++ new.last.frames; waits = new.last.waits }

-- Behind a marker these octets are the first frame that is heard, and what comes after them is heard as if it came alone.
pub record IsHeard (profile : Profile) (octets : List ℕ) : Type 0 where
  pub first : (rest : List ℕ) → heard profile 0 (marker ++ octets ++ rest) ≡ first_heard octets (heard profile 0 rest)
