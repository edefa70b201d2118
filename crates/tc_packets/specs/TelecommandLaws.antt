-- What holds of the reading of telecommand packets.
use Rattle.std.specs.Prelude.{◌≡◌, ℕ, Result, Ok, List}
use Rattle.tc_octets.specs.declared.profiles.Profile.{Profile}
use Rattle.tc_packets.specs.Flights.{Fits}
use Rattle.tc_packets.specs.Telecommands.{telecommand_of}
use Rattle.tc_packets.specs.TelecommandReaders.{IsTelecommand}
use Rattle.tc_packets.specs.declared.flights.Flight.{Flight}
use Rattle.tc_packets.specs.declared.telecommand_readers.PacketFault.{PacketFault}

-- What octets are read as.
pub record ReadsBack (profile : Profile) (octets : List ℕ) (read : Result Flight PacketFault) : Type 0 where
  -- octets that are the packet of a request are read as that one, so they are the packet of one request at most
  pub only : (flight : Flight) → IsTelecommand profile octets flight → read ≡ Ok flight
  -- what is written for a request is read as that request, so different requests have different packets
  pub back : (flight : Flight) → Fits profile flight → octets ≡ telecommand_of profile flight → read ≡ Ok flight
