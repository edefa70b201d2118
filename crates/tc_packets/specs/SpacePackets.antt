-- Space packets (CCSDS 133.0-B, 4.1).
use Rattle.std.specs.Prelude.{◌≡◌, ◌≢◌, ℕ, ◌+◌, ◌*◌, ◌/◌, ◌^◌, ◌-◌, ◌<◌, ◌≤◌, Bool, if◌then◌else◌, false, List, ◌++◌, length, Result, Ok, Err}
use Rattle.std.specs.Prelude.{replicate}
use Rattle.tc_octets.specs.Bits.{pair, pair_at}
use Rattle.tc_packets.specs.declared.space_packets.PacketType.{PacketType}
use Rattle.tc_packets.specs.declared.space_packets.PacketType.TheVariants as types
use Rattle.tc_packets.specs.declared.space_packets.SequenceFlags.{SequenceFlags}
use Rattle.tc_packets.specs.declared.space_packets.SequenceFlags.TheVariants as sequences
use Rattle.tc_packets.specs.declared.space_packets.PacketHeader.{PacketHeader}
use Rattle.tc_packets.specs.declared.space_packets.SpacePacket.{SpacePacket}
use Rattle.tc_packets.specs.declared.space_packets.SpaceFault.{SpaceFault}
use Rattle.tc_packets.specs.declared.space_packets.SpaceFault.TheVariants as faults

-- ---- the fields of a header

abbrev pub type_bit : PacketType → ℕ
type_bit types.Telemetry = 0
type_bit types.Telecommand = 1

abbrev pub flag_bit : Bool → ℕ
flag_bit flag = if flag then 1 else 0

abbrev pub sequence_bits : SequenceFlags → ℕ
sequence_bits sequences.Continuation = 0
sequence_bits sequences.First = 1
sequence_bits sequences.Last = 2
sequence_bits sequences.Unsegmented = 3

-- Packet identification: version 000, type, secondary header flag, APID.
abbrev pub identification : PacketHeader → ℕ
identification header = type_bit header.kind * 2 ^ 12 + flag_bit header.secondary * 2 ^ 11 + header.identity.apid

-- Packet sequence control: sequence flags, sequence count.
abbrev pub sequence_control : PacketHeader → ℕ
sequence_control header = sequence_bits header.sequence * 2 ^ 14 + header.identity.count

-- the six octets before a data field of so many octets
abbrev pub header_of : PacketHeader → ℕ → List ℕ
header_of header octets = pair (identification header) ++ pair (sequence_control header) ++ pair (octets - 1)

-- the octets of a packet
abbrev pub space_packet_of : PacketHeader → List ℕ → List ℕ
space_packet_of header field = header_of header (length field) ++ field

-- a data field has 1 to 65,536 octets
pub record IsField (field : List ℕ) : Type 0 where
  pub least : 1 ≤ length field
  pub most : length field ≤ 2 ^ 16

-- an APID of 11 bits, and a count of 14
pub record IsHeader (header : PacketHeader) : Type 0 where
  pub apid : header.identity.apid < 2 ^ 11
  pub count : header.identity.count < 2 ^ 14

-- ---- what a reader looks at

-- how many octets a packet says that it has: those of its header and of its data field
abbrev pub whole_length_in : List ℕ → ℕ
whole_length_in octets = pair_at octets 4 + 7

-- a header and a data field, of as many octets as the header says
pub record IsWhole (octets : List ℕ) : Type 0 where
  pub least : 7 ≤ length octets
  pub told : whole_length_in octets ≡ length octets

abbrev pub version_in : List ℕ → ℕ
version_in octets = pair_at octets 0 / 2 ^ 13

-- What a reader says of octets: the packet, where they are just that packet; else the first fault that applies.
abbrev pub ReadsPacket : List ℕ → Result SpacePacket SpaceFault → Type 0
ReadsPacket octets (Ok packet) = IsHeader packet.header × IsField packet.field.now × (octets ≡ space_packet_of packet.header packet.field.now)
ReadsPacket octets (Err faults.Length) = ¬ IsWhole octets
ReadsPacket octets (Err faults.Version) = IsWhole octets × (version_in octets ≢ 0)

-- ---- the idle packet

-- An idle packet of so many octets: APID 2047, no secondary header, count 0, and a data field of octets 55.
abbrev pub idle_header : PacketHeader
idle_header = record { kind = types.Telemetry; secondary = false; identity = record { apid = 2047; count = 0 }; sequence = sequences.Unsegmented }

abbrev pub idle_packet_of : ℕ → List ℕ
idle_packet_of octets = space_packet_of idle_header (replicate (octets - 6) 0x55)
