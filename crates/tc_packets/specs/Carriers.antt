-- Packets over telemetry frames (CCSDS 132.0-B, 4.1): the frames that carry a list of packets, each with a first header pointer.
use Rattle.std.specs.Prelude.{ℕ, Vec, ◌+◌, ◌*◌, ◌-◌, ◌/◌, ◌%◌, ◌^◌, ◌==◌, ◌&&◌, nat_le, nat_lt, if◌then◌else◌, List, [], ◌∷◌, ◌++◌, length, take}
use Rattle.std.specs.Prelude.{drop, map, replicate, Some}
use Rattle.std.specs.List.{concat, range_with_len}
use Rattle.tc_octets.specs.TcFrames.{check_length}
use Rattle.tc_octets.specs.TmFrames.{TmParts}
use Rattle.tc_octets.specs.declared.profiles.Profile.{Profile}
use Rattle.tc_packets.specs.SpacePackets.{idle_packet_of}
use Rattle.tc_packets.specs.declared.tm_senders.TmSender.{TmSender}

abbrev pub octets_of : {A : Type 0} → Vec ℕ A → List ℕ
octets_of octets = octets.items

-- how many octets the data field of a frame with a control word has
abbrev pub data_length : Profile → ℕ
data_length profile = profile.tm.length - 10 - check_length profile.tm.fecf

-- The idle packet after packets that leave so many octets of the last data field: it fills that, or that and one more, as it has seven octets or
-- more.
abbrev pub idle_length : ℕ → ℕ → ℕ
idle_length size left = if nat_lt left 7 then left + size else left

-- the fill after so many octets of packets: an idle packet, or nothing if they fill their data fields
unfoldable pub fill_of : ℕ → ℕ → List (List ℕ)
fill_of size octets = if octets % size == 0 then [] else idle_packet_of (idle_length size (size - octets % size)) ∷ []

-- packets and their fill
abbrev pub filled : ℕ → List (List ℕ) → List (List ℕ)
filled size packets = packets ++ fill_of size (length (concat packets))

-- the places where packets begin, the first of them at this one
abbrev pub starts : ℕ → List (List ℕ) → List ℕ
starts at [] = []
starts at (packet ∷ packets) = at ∷ starts (at + length packet) packets

-- The first header pointer of the data field that begins at a place: how far after it the first of these starts in it is, or 2047 if none is.
abbrev pub pointer_in : ℕ → ℕ → List ℕ → ℕ
pointer_in begin size [] = 2047
pointer_in begin size (start ∷ more) = if nat_le begin start && nat_lt start (begin + size) then start - begin else pointer_in begin size more

-- The frame that a sender sends after so many others: it has the control word, and no secondary header, no synchronization, no other packet order and
-- the segment length identifier 11.
abbrev pub frame_after : Profile → TmSender → ℕ → ℕ → ℕ → List ℕ → TmParts
frame_after profile sender word count pointer content = record {
  vcid = profile.tm.vcid;
  master_count = (sender.master_count + count) % 2 ^ 8;
  channel_count = (sender.channel_count + count) % 2 ^ 8;
  status = 3 * 2 ^ 11 + pointer;
  content = content;
  word = Some word;
}

-- one of the frames that octets fill, where packets start at these places: the octets that are its turn, and the first start among them
abbrev pub carrying : Profile → TmSender → ℕ → List ℕ → List ℕ → ℕ → TmParts
carrying profile sender word octets places count =
    frame_after profile sender word count (pointer_in (count * data_length profile) (data_length profile) places)
    (take (data_length profile) (drop (count * data_length profile) octets))

-- the frames that octets fill
abbrev pub carriers : Profile → TmSender → ℕ → List ℕ → List ℕ → List TmParts
carriers profile sender word octets places = map (carrying profile sender word octets places) (range_with_len 0 (length octets / data_length profile))

abbrev pub idle_frame : Profile → TmSender → ℕ → TmParts
idle_frame profile sender word = frame_after profile sender word 0 2046 (replicate (data_length profile) 0x55)

-- What a sender sends: the frames of these packets with their fill; one frame of idle data if there are none.
abbrev pub frames_of : Profile → TmSender → ℕ → List (List ℕ) → List TmParts
frames_of profile sender word [] = idle_frame profile sender word ∷ []
frames_of profile sender word (packet ∷ packets) =
    carriers profile sender word (concat (filled (data_length profile) (packet ∷ packets)))
    (starts 0 (filled (data_length profile) (packet ∷ packets)))

-- a sender that has sent so many more frames
abbrev pub later : TmSender → ℕ → TmSender
later sender count = record { master_count = (sender.master_count + count) % 2 ^ 8; channel_count = (sender.channel_count + count) % 2 ^ 8 }
