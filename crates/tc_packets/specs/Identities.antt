-- How a request is named in octets (ECSS-E-ST-70-41C, 8.1.2, 8.11.2): by the front of its packet, and in the schedule by its source, too.
use Rattle.std.specs.Prelude.{◌≡◌, ℕ, true, ◌<◌, ◌≤◌, Option, Some, None, List, ◌++◌}
use Rattle.tc_types.specs.declared.requests.Identity.{Identity}
use Rattle.tc_octets.specs.Bits.{pair}
use Rattle.tc_packets.specs.SpacePackets.{identification, sequence_control}
use Rattle.tc_packets.specs.declared.space_packets.PacketType.TheVariants.{Telecommand}
use Rattle.tc_packets.specs.declared.space_packets.SequenceFlags.TheVariants.{Unsegmented}
use Rattle.tc_packets.specs.declared.space_packets.PacketHeader.{PacketHeader}
use Rattle.tc_packets.specs.declared.identities.ActivityName.{ActivityName}

-- the header of a request's packet: a telecommand, unsegmented, with a secondary header
abbrev pub request_header : Identity → PacketHeader
request_header identity = record { kind = Telecommand; secondary = true; identity = identity; sequence = Unsegmented }

-- APID 2047 is the idle packet's: no request that flies has it.
pub record Flies (identity : Identity) : Type 0 where
  pub apid : identity.apid ≤ 2046
  pub count : identity.count < 16384

-- the request id: the first four octets of the request's packet
abbrev pub request_id_of : Identity → List ℕ
request_id_of identity = pair (identification (request_header identity)) ++ pair (sequence_control (request_header identity))

-- the name of an activity: source, APID, sequence count
abbrev pub name_of : ActivityName → List ℕ
name_of name = pair name.source ++ pair name.identity.apid ++ pair name.identity.count

-- What a reader says of four octets: the identity whose request id they are, or that there is none.
abbrev pub ReadsRequestId : List ℕ → Option Identity → Type 0
ReadsRequestId octets (Some identity) = Flies identity × (octets ≡ request_id_of identity)
ReadsRequestId octets None = (identity : Identity) → Flies identity → ¬ (octets ≡ request_id_of identity)

-- What a reader says of six octets: the name that they are, or that there is none.
abbrev pub ReadsName : List ℕ → Option ActivityName → Type 0
ReadsName octets (Some name) = Flies name.identity × (octets ≡ name_of name)
ReadsName octets None = (name : ActivityName) → Flies name.identity → ¬ (octets ≡ name_of name)
