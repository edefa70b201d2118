-- A request comes up through all layers.
use Rattle.std.proofs.Common.{◌≡◌, ℕ, ◌<◌, ◌≤◌, List, length, Option, Some, None, Result, Ok, Err, refl, sym, ap, subst, arith}
use Rattle.tc_octets.specs.Cltus.{IsFrameIn, filled_of}
use Rattle.tc_octets.specs.TcFrames.{Carried, IsCarried, IsFrameOf, ad, flags_of, number_of, segment_header, set_vr}
use Rattle.tc_octets.specs.TcFrames.{unlock}
use Rattle.tc_octets.specs.declared.profiles.Map.{Map}
use Rattle.tc_octets.specs.declared.profiles.Profile.{Profile}
use Rattle.tc_octets.proofs.BringLemmas.{cltu_brings, frame_there}
use Rattle.tc_octets.proofs.CltuFrameLemmas.{check_small, frame_small}
use Rattle.tc_octets.proofs.TcFrameLaws.{frames_come_back, frames_differ}
use Rattle.tc_packets.specs.Flights.{Fits}
use Rattle.tc_packets.specs.Telecommands.{data_of, service_of, subtype_of, telecommand_of}
use Rattle.tc_packets.specs.TelecommandReaders.{IsTelecommand, Reads}
use Rattle.tc_packets.specs.Uplinks.{ComesUp, ReadsInformation, ReadsPacketOf, ReadsUpward, plain_in, request_cltu_of, request_frame_of}
use Rattle.tc_packets.specs.declared.flights.Flight.{Flight}
use Rattle.tc_packets.specs.declared.telecommand_readers.PacketFault.{PacketFault}
use Rattle.tc_packets.specs.declared.uplinks.Upward.{Upward}
use Rattle.tc_packets.specs.declared.uplinks.Upward.TheVariants as ups
use Rattle.tc_packets.specs.declared.uplinks.UpwardFault.{UpwardFault}
use Rattle.tc_packets.specs.declared.uplinks.UpwardFault.TheVariants as faults
use Rattle.tc_packets.proofs.PacketLemmas.{packet_length}
use Rattle.tc_packets.proofs.SizeLemmas.{telecommands_short}
use Rattle.tc_packets.proofs.WrittenLemmas.{telecommands_come_back}

segment_small : (map : Option Map) → length (segment_header map) ≤ 1
segment_small None = omega arith
segment_small (Some map) = omega arith

-- a frame may carry the packet of each request that fits
pub may_carry : (profile : Profile) (ns : ℕ) (flight : Flight) (packet : List ℕ) → ns < 256 → Fits profile flight
    → packet ≡ telecommand_of profile flight → IsCarried profile.tc (ad ns packet)
may_carry profile ns flight packet low fits e =
    let short = telecommands_short profile flight fits in
    let size =
    packet_length profile flight.identity flight.ack (service_of flight.task) (subtype_of flight.task) (data_of profile flight.task) in
    let same : length packet ≡ length (telecommand_of profile flight) = ap (λ (l : List ℕ). length l) e in
    (omega arith, omega (arith, size), omega (arith, short, segment_small profile.tc.map, check_small profile.tc.fecf))

-- ---- what readers say of it

abbrev packet_in : Carried → List ℕ → List ℕ
packet_in (ad ns packet) other = packet
packet_in unlock other = other
packet_in (set_vr vr) other = other

up_back : (profile : Profile) (ns : ℕ) (flight : Flight) (answer : Result Upward UpwardFault) → Fits profile flight
    → IsCarried profile.tc (ad ns (telecommand_of profile flight)) → ReadsUpward profile (request_frame_of profile ns flight) answer
    → answer ≡ Ok (ups.Request ns flight)
up_back profile ns flight (Ok (ups.Request number other)) fits may says =
    let same = frames_differ profile (ad ns (telecommand_of profile flight)) (ad number says.0) says.1.1 in
    let counted : ns ≡ number = ap number_of same in
    let packet : telecommand_of profile flight ≡ says.0 = ap (λ (c : Carried). packet_in c (telecommand_of profile flight)) same in
    let back : ◌≡◌ {A = Result Flight PacketFault} (Ok other) (Ok flight) =
    telecommands_come_back profile flight (Ok other) fits (subst (λ (l : List ℕ). IsTelecommand profile l other) (sym packet) says.2) in
    cc
up_back profile ns flight (Ok ups.Unlock) fits may says =
    absurd (omega (arith, ap flags_of (frames_differ profile (ad ns (telecommand_of profile flight)) unlock says.1)))
up_back profile ns flight (Ok (ups.SetVr vr)) fits may says =
    absurd (omega (arith, ap flags_of (frames_differ profile (ad ns (telecommand_of profile flight)) (set_vr vr) says.1)))
up_back profile ns flight (Err faults.NoFrame) fits may says = absurd says
up_back profile ns flight (Err (faults.Frame fault)) fits may says =
    absurd (frames_come_back profile (ad ns (telecommand_of profile flight)) (Err fault) may says)
up_back profile ns flight (Err (faults.Packet fault)) fits may says =
    let same = frames_differ profile (ad ns (telecommand_of profile flight)) (ad says.0 says.1) says.2.1 in
    let packet : telecommand_of profile flight ≡ says.1 = ap (λ (c : Carried). packet_in c (telecommand_of profile flight)) same in
    let back : ◌≡◌ {A = Result Flight PacketFault} (Err fault) (Ok flight) =
    telecommands_come_back profile flight (Err fault) fits (subst (λ (l : List ℕ). Reads profile l (Err fault)) (sym packet) says.3) in
    absurd (cc)

information_back : (profile : Profile) (ns : ℕ) (flight : Flight) (information : List ℕ) (answer : Result Upward UpwardFault) → Fits profile flight
    → IsCarried profile.tc (ad ns (telecommand_of profile flight))
    → IsFrameIn (plain_in profile information) (request_frame_of profile ns flight) → ReadsInformation profile information answer
    → answer ≡ Ok (ups.Request ns flight)
information_back profile ns flight information (Ok up) fits may there says =
    up_back profile ns flight (Ok up) fits may (subst (λ (l : List ℕ). ReadsUpward profile l (Ok up)) (sym there.is) says.1)
information_back profile ns flight information (Err faults.NoFrame) fits may there says = absurd (says there.has)
information_back profile ns flight information (Err (faults.Frame fault)) fits may there says =
    up_back profile ns flight (Err (faults.Frame fault)) fits may
    (subst (λ (l : List ℕ). ReadsUpward profile l (Err (faults.Frame fault))) (sym there.is) says.1)
information_back profile ns flight information (Err (faults.Packet fault)) fits may there says =
    up_back profile ns flight (Err (faults.Packet fault)) fits may
    (subst (λ (l : List ℕ). ReadsUpward profile l (Err (faults.Packet fault))) (sym there.is) says.1)

-- what is said of the packet in a frame is said of the frame
pub from_packet : (profile : Profile) (octets packet : List ℕ) (ns : ℕ) (answer : Result Upward UpwardFault) → IsFrameOf profile octets (ad ns packet)
    → ReadsPacketOf profile ns packet answer → ReadsUpward profile octets answer
from_packet profile octets packet ns (Ok (ups.Request number flight)) is says =
    (packet, subst (λ (n : ℕ). IsFrameOf profile octets (ad n packet)) (sym says.0) is, says.1)
from_packet profile octets packet ns (Ok ups.Unlock) is says = absurd says
from_packet profile octets packet ns (Ok (ups.SetVr vr)) is says = absurd says
from_packet profile octets packet ns (Err faults.NoFrame) is says = says
from_packet profile octets packet ns (Err (faults.Frame fault)) is says = absurd says
from_packet profile octets packet ns (Err (faults.Packet fault)) is says = (ns, packet, is, says)

-- what is said of the frame at the front is said of the information
pub from_frame : (profile : Profile) (information frame : List ℕ) (answer : Result Upward UpwardFault)
    → IsFrameIn (plain_in profile information) frame
    → ReadsUpward profile frame answer → ReadsInformation profile information answer
from_frame profile information frame (Ok up) there says = (there.has, subst (λ (l : List ℕ). ReadsUpward profile l (Ok up)) there.is says)
from_frame profile information frame (Err faults.NoFrame) there says = absurd says
from_frame profile information frame (Err (faults.Frame fault)) there says =
    (there.has, subst (λ (l : List ℕ). ReadsUpward profile l (Err (faults.Frame fault))) there.is says)
from_frame profile information frame (Err (faults.Packet fault)) there says =
    (there.has, subst (λ (l : List ℕ). ReadsUpward profile l (Err (faults.Packet fault))) there.is says)

pub comes_up : (profile : Profile) (ns : ℕ) (flight : Flight) (octets : List ℕ) → ns < 256 → Fits profile flight
    → octets ≡ request_cltu_of profile ns flight → ComesUp profile ns flight octets
comes_up profile ns flight octets low fits e =
    let may = may_carry profile ns flight (telecommand_of profile flight) low fits refl in
    let there = frame_there profile (ad ns (telecommand_of profile flight)) may in
    let small = frame_small profile (ad ns (telecommand_of profile flight)) may in
    let done : ComesUp profile ns flight (request_cltu_of profile ns flight) =
    record {
      brings = cltu_brings profile.tc.randomizer (request_frame_of profile ns flight) small;
      frame = there;
      read =
          λ answer says. information_back profile ns flight (filled_of profile.tc.randomizer (request_frame_of profile ns flight)) answer fits may
          there says;
    } in
    subst (λ (l : List ℕ). ComesUp profile ns flight l) (sym e) done
