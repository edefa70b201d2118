-- The receiver of packets over telemetry frames of one virtual channel (CCSDS 132.0-B, 4.1). It joins packets again by first header pointers.
use Rattle.std.specs.Prelude.{◌≡◌, map, Vec, ℕ, zero, suc, ◌+◌, ◌-◌, ◌/◌, ◌%◌, ◌^◌, ◌<◌, ◌≤◌, ◌==◌, ◌&&◌, ◌||◌, not, nat_le, nat_lt, if◌then◌else◌, Bool}
use Rattle.std.specs.Prelude.{true, false, List, [], ◌∷◌, ◌++◌, length, take, drop, slice_index, Option, Some, None}
use Rattle.tc_octets.specs.TmFrames.{TmParts}
use Rattle.tc_packets.specs.SpacePackets.{whole_length_in}
use Rattle.tc_packets.specs.declared.packet_readers.Item.{Item}
use Rattle.tc_packets.specs.declared.packet_readers.Item.TheVariants as item

-- what a receiver gives: the octets of a packet, or a mark
pub data Given : Type 0 where
  packet : List ℕ → Given
  gap : Given
  cut : Given
  skipped : Given

abbrev pub given_of : {A : Type 0} → Item A → Given
given_of (item.Packet octets) = packet octets.items
given_of item.Gap = gap
given_of item.Cut = cut
given_of item.Skipped = skipped

-- what is given, and the octets of the packet in progress after that
pub record Received : Type 0 where
  pub given : List Given
  pub part : List ℕ

-- A list has this now after what it had, and these octets are left for the packet in progress.
pub record Appends {A : Type 0} (came : Received) (old new : Vec (Item A) A) (left : Vec ℕ A) : Type 0 where
  pub given : map given_of new.items ≡ map given_of old.items ++ came.given
  pub part : left.items ≡ came.part

abbrev pub quiet : List ℕ → Received
quiet part = record { given = []; part = part }

-- this first, then what comes of the packet in progress
abbrev pub and_then : Received → (List ℕ → Received) → Received
and_then first rest = record { given = first.given ++ (rest first.part).given; part = (rest first.part).part }

abbrev pub marked : Given → Received → Received
marked mark rest = record { given = mark ∷ rest.given; part = rest.part }

-- A packet in progress that is dropped is marked as cut.
abbrev pub dropped : List ℕ → Received
dropped [] = quiet []
dropped (octet ∷ octets) = record { given = cut ∷ []; part = [] }

-- ---- the rules, for the packet in progress; while fewer than the six octets of its header came, its length by its length field is more than came

abbrev pub is_next : Option ℕ → ℕ → Bool
is_next None count = true
is_next (Some expected) count = count == expected

-- A frame whose count is not the one expected comes after a gap.
unfoldable pub counted : Option ℕ → ℕ → List ℕ → Received
counted expected count part = if is_next expected count then quiet part else marked gap (dropped part)

-- Frames are skipped that have a secondary header, synchronization, another packet order or another segment length identifier than 11, or a pointer
-- past the data field of so many octets.
unfoldable pub is_skipped : ℕ → ℕ → Bool
is_skipped status size = not (status / 2 ^ 11 == 3) || (nat_le size (status % 2 ^ 11) && nat_lt (status % 2 ^ 11) 2046)

-- The packet in progress has these octets now. It may be whole, or go on in the next frame if it may; else it is dropped.
abbrev pub ended : Bool → List ℕ → Received
ended may_go_on octets =
    if length octets == whole_length_in octets then record { given = packet octets ∷ []; part = [] }
    else if may_go_on && nat_lt (length octets) (whole_length_in octets) then quiet octets
    else dropped octets

-- Octets go on with the packet in progress, if there is one.
unfoldable pub continued : Bool → List ℕ → List ℕ → Received
continued may_go_on [] octets = quiet []
continued may_go_on (first ∷ part) octets = ended may_go_on (first ∷ part ++ octets)

-- Where packets begin: an octet that begins none ends the search, a rest that is less than a packet is the packet in progress.
abbrev pub from_start : List ℕ → Received → Received
from_start octets rest =
    if nat_le (2 ^ 5) (slice_index octets 0) then record { given = cut ∷ []; part = [] }
    else if nat_lt (length octets) (whole_length_in octets) then quiet octets
    else marked (packet (take (whole_length_in octets) octets)) rest

-- whole packets one after the other, after so many octets that are passed over
unfoldable pub begun : ℕ → List ℕ → Received
begun passed [] = quiet []
begun (suc passed) (octet ∷ octets) = begun passed octets
begun zero (octet ∷ octets) = from_start (octet ∷ octets) (begun (whole_length_in (octet ∷ octets) - 1) octets)

-- by the first header pointer: idle data alone, no start of a packet, or the first start
unfoldable pub carried : ℕ → List ℕ → List ℕ → Received
carried pointer content part =
    if pointer == 2046 then quiet part
    else if pointer == 2047 then continued true part content
    else and_then (continued false part (take pointer content)) (λ _. begun 0 (drop pointer content))

unfoldable pub looked_at : ℕ → List ℕ → List ℕ → Received
looked_at status content part = if is_skipped status (length content) then marked skipped (dropped part) else carried (status % 2 ^ 11) content part

-- ---- the receiver

-- the packet in progress, and the frame count that is expected, if one is
pub record Receiver : Type 0 where
  pub part : List ℕ
  pub expected : Option ℕ

-- what a frame brings
unfoldable pub received : Receiver → TmParts → Received
received receiver frame = and_then (counted receiver.expected frame.channel_count receiver.part) (λ part. looked_at frame.status frame.content part)

abbrev pub fresh : Receiver
fresh = record { part = []; expected = None }

-- the receiver after a frame
abbrev pub received_to : Receiver → TmParts → Receiver
received_to receiver frame = record { part = (received receiver frame).part; expected = Some ((frame.channel_count + 1) % 2 ^ 8) }

-- a packet in progress is less than a whole one
abbrev pub IsPart : List ℕ → Type 0
IsPart part = length part < whole_length_in part

-- So it has at most 65,541 octets.
pub record IsShortPart (part : List ℕ) : Type 0 where
  pub less : IsPart part
  pub most : ((i : ℕ) → slice_index part i < 2 ^ 8) → length part ≤ 65541
