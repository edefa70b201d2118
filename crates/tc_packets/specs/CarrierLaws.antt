-- What holds of packets that are sent over telemetry frames and received again.
use Rattle.std.specs.Prelude.{◌≡◌, ℕ, ◌%◌, ◌^◌, ◌<◌, ◌+◌, ◌==◌, if◌then◌else◌, Bool, true, List, [], ◌∷◌, ◌++◌, length, map, slice_index}
use Rattle.tc_octets.specs.Bits.{pair_at}
use Rattle.tc_octets.specs.TmFrames.{TmParts}
use Rattle.tc_octets.specs.declared.profiles.Profile.{Profile}
use Rattle.tc_packets.specs.Carriers.{data_length, filled, frames_of}
use Rattle.tc_packets.specs.Receivers.{Given, Receiver, cut, gap, is_next, packet, received, received_to, skipped}
use Rattle.tc_packets.specs.SpacePackets.{whole_length_in}
use Rattle.tc_packets.specs.declared.tm_senders.TmSender.{TmSender}

-- a whole packet: as long as its length field says, of packet version 000
pub record IsPacket (octets : List ℕ) : Type 0 where
  pub told : whole_length_in octets ≡ length octets
  pub version : slice_index octets 0 < 2 ^ 5

-- what frames give, one after the other, and the receiver after them
pub record Run : Type 0 where
  pub given : List Given
  pub receiver : Receiver

abbrev pub run : Receiver → List TmParts → Run
run receiver [] = record { given = []; receiver = receiver }
run receiver (frame ∷ frames) =
    record {
      given = (received receiver frame).given ++ (run (received_to receiver frame) frames).given;
      receiver =
          (run (received_to receiver frame) frames).receiver;
    }

-- a receiver that has no packet in progress, and takes a frame with this count as the next one
pub record Awaits (receiver : Receiver) (count : ℕ) : Type 0 where
  pub part : receiver.part ≡ []
  pub next : is_next receiver.expected count ≡ true

-- an idle packet has APID 2047
abbrev pub is_idle : List ℕ → Bool
is_idle octets = pair_at octets 0 % 2 ^ 11 == 2047

-- the packets that were given, without idle ones
abbrev pub reports_in : List Given → List (List ℕ)
reports_in [] = []
reports_in (packet octets ∷ more) = if is_idle octets then reports_in more else octets ∷ reports_in more
reports_in (gap ∷ more) = reports_in more
reports_in (cut ∷ more) = reports_in more
reports_in (skipped ∷ more) = reports_in more

-- the packets and their fill came, and nothing else; the receiver awaits the frames of the next list
pub record ComesBack (profile : Profile) (sender : TmSender) (word : ℕ) (packets : List (List ℕ)) (receiver : Receiver) : Type 0 where
  pub given : (run receiver (frames_of profile sender word packets)).given ≡ map packet (filled (data_length profile) packets)
  pub awaits : Awaits (run receiver (frames_of profile sender word packets)).receiver
      ((sender.channel_count + length (frames_of profile sender word packets)) % 2 ^ 8)
