-- Telecommand packets that were written by hand, as the definitions have them.
use Rattle.std.proofs.Common.{◌≡◌, ℕ, Bool, true, false, List, [], ◌∷◌, Some, None, refl, arith}
use Rattle.std.specs.Prelude.{ℤ, pos, negsuc, Option}
use Rattle.tc_types.specs.declared.requests.Ack.{Ack}
use Rattle.tc_types.specs.declared.requests.Identity.{Identity}
use Rattle.tc_types.specs.declared.requests.Outcome.{Outcome}
use Rattle.tc_types.specs.declared.requests.Outcome.TheVariants as outcomes
use Rattle.tc_octets.specs.Bits.{octet_bits}
use Rattle.tc_octets.specs.Epochs.{IsEpoch}
use Rattle.tc_octets.specs.Crc.{crc_step}
use Rattle.tc_octets.specs.declared.profiles.Profile.{Profile}
use Rattle.tc_packets.specs.Telecommands.{telecommand_of}
use Rattle.tc_packets.specs.declared.flights.Plain.{Plain}
use Rattle.tc_packets.specs.declared.flights.FlightActivity.{FlightActivity}
use Rattle.tc_packets.specs.declared.flights.FlightTask.{FlightTask}
use Rattle.tc_packets.specs.declared.flights.FlightTask.TheVariants as tasks
use Rattle.tc_packets.specs.declared.flights.Flight.{Flight}
use Rattle.tc_packets.proofs.EpochCases.{from_1970, from_1980}

-- the profile of the defaults but for these
abbrev link : ℕ → (epoch : ℤ) → IsEpoch epoch → Bool → Bool → Profile
link source epoch within fine rehearsal = record {
  scid = 1;
  tc = record {
    vcid = 3;
    map = None;
    window = 20;
    fecf = true;
    randomizer = false;
    idle = 0;
    correct = false;
    vcid_fits = omega arith;
    window_fits = omega arith;
    window_stands = omega arith;
    window_even = refl;
  };
  tm = record { length = 1115; vcid = 0; fecf = true; length_fits = omega arith; length_stands = omega arith; vcid_fits = omega arith };
  apid = 1;
  source = source;
  epoch = epoch;
  fine = fine;
  rehearsal = rehearsal;
  scid_fits = omega arith;
  apid_fits = omega arith;
  apid_stands = omega arith;
  epoch_fits = within;
}

abbrev at : ℕ → ℕ → Identity
at apid count = record { apid = apid; count = count }

abbrev asking : Bool → Bool → Bool → Bool → Ack
asking acceptance start progress completion = record { acceptance = acceptance; start = start; progress = progress; completion = completion }

abbrev plain : ℕ → ℕ → List ℕ → Option Outcome → Plain
plain service subtype application outcome = record { service = service; subtype = subtype; application = application; outcome = outcome }

abbrev activity : ℕ → Identity → Ack → Plain → FlightActivity
activity time identity ack asked = record { time = time; identity = identity; ack = ack; plain = asked }

abbrev flight : Identity → Ack → FlightTask → Flight
flight identity ack task = record { identity = identity; ack = ack; task = task }

-- plain
case_1 : telecommand_of (link 0 (pos 0) from_1970 false true) (flight (at 5 0) (asking true false false true)
    (tasks.Plain (plain 8 1 ([]) (Some outcomes.Completes))))
    ≡ 0x18 ∷ 0x05 ∷ 0xc0 ∷ 0x00 ∷ 0x00 ∷ 0x09 ∷ 0x29 ∷ 0x08 ∷ 0x01 ∷ 0x00 ∷ 0x00 ∷ 0x00 ∷ 0x00 ∷ 0x00 ∷ 0x85 ∷ 0x69 ∷ []
unfolding octet_bits crc_step
case_1 = refl

-- acceptance alone is the lowest bit
case_2 : telecommand_of (link 0 (pos 0) from_1970 false true) (flight (at 5 1) (asking true false false false)
    (tasks.Plain (plain 8 1 ([]) (Some outcomes.Completes))))
    ≡ 0x18 ∷ 0x05 ∷ 0xc0 ∷ 0x01 ∷ 0x00 ∷ 0x09 ∷ 0x21 ∷ 0x08 ∷ 0x01 ∷ 0x00 ∷ 0x00 ∷ 0x00 ∷ 0x00 ∷ 0x00 ∷ 0x43 ∷ 0xfa ∷ []
unfolding octet_bits crc_step
case_2 = refl

-- completion alone is the highest bit
case_5 : telecommand_of (link 0 (pos 0) from_1970 false true) (flight (at 5 1) (asking false false false true)
    (tasks.Plain (plain 8 1 ([]) (Some outcomes.Completes))))
    ≡ 0x18 ∷ 0x05 ∷ 0xc0 ∷ 0x01 ∷ 0x00 ∷ 0x09 ∷ 0x28 ∷ 0x08 ∷ 0x01 ∷ 0x00 ∷ 0x00 ∷ 0x00 ∷ 0x00 ∷ 0x00 ∷ 0x1a ∷ 0xf3 ∷ []
unfolding octet_bits crc_step
case_5 = refl

-- outcome ok/9
case_6 : telecommand_of (link 0 (pos 0) from_1970 false true) (flight (at 5 2) (asking true true true true)
    (tasks.Plain (plain 8 1 ([]) (Some (outcomes.CompletesInSteps 9)))))
    ≡ 0x18 ∷ 0x05 ∷ 0xc0 ∷ 0x02 ∷ 0x00 ∷ 0x09 ∷ 0x2f ∷ 0x08 ∷ 0x01 ∷ 0x00 ∷ 0x00 ∷ 0x01 ∷ 0x09 ∷ 0x00 ∷ 0x28 ∷ 0xb9 ∷ []
unfolding octet_bits crc_step
case_6 = refl

-- outcome refuse/16
case_7 : telecommand_of (link 0 (pos 0) from_1970 false true) (flight (at 5 2) (asking true true true true)
    (tasks.Plain (plain 8 1 ([]) (Some (outcomes.Refuses 16)))))
    ≡ 0x18 ∷ 0x05 ∷ 0xc0 ∷ 0x02 ∷ 0x00 ∷ 0x09 ∷ 0x2f ∷ 0x08 ∷ 0x01 ∷ 0x00 ∷ 0x00 ∷ 0x02 ∷ 0x00 ∷ 0x10 ∷ 0xd9 ∷ 0x40 ∷ []
unfolding octet_bits crc_step
case_7 = refl

-- outcome nostart/255
case_8 : telecommand_of (link 0 (pos 0) from_1970 false true) (flight (at 5 2) (asking true true true true)
    (tasks.Plain (plain 8 1 ([]) (Some (outcomes.StartFails 255)))))
    ≡ 0x18 ∷ 0x05 ∷ 0xc0 ∷ 0x02 ∷ 0x00 ∷ 0x09 ∷ 0x2f ∷ 0x08 ∷ 0x01 ∷ 0x00 ∷ 0x00 ∷ 0x03 ∷ 0x00 ∷ 0xff ∷ 0xe2 ∷ 0xb1 ∷ []
unfolding octet_bits crc_step
case_8 = refl

-- outcome halt/2/40
case_9 : telecommand_of (link 0 (pos 0) from_1970 false true) (flight (at 5 2) (asking true true true true)
    (tasks.Plain (plain 8 1 ([]) (Some (outcomes.Halts 2 40)))))
    ≡ 0x18 ∷ 0x05 ∷ 0xc0 ∷ 0x02 ∷ 0x00 ∷ 0x09 ∷ 0x2f ∷ 0x08 ∷ 0x01 ∷ 0x00 ∷ 0x00 ∷ 0x04 ∷ 0x02 ∷ 0x28 ∷ 0xba ∷ 0xd9 ∷ []
unfolding octet_bits crc_step
case_9 = refl

-- outcome fail/17
case_10 : telecommand_of (link 0 (pos 0) from_1970 false true) (flight (at 5 2) (asking true true true true)
    (tasks.Plain (plain 8 1 ([]) (Some (outcomes.Fails 17)))))
    ≡ 0x18 ∷ 0x05 ∷ 0xc0 ∷ 0x02 ∷ 0x00 ∷ 0x09 ∷ 0x2f ∷ 0x08 ∷ 0x01 ∷ 0x00 ∷ 0x00 ∷ 0x05 ∷ 0x00 ∷ 0x11 ∷ 0x4c ∷ 0xf1 ∷ []
unfolding octet_bits crc_step
case_10 = refl

-- data before the outcome
case_11 : telecommand_of (link 0 (pos 0) from_1970 false true) (flight (at 5 3) (asking true false false true)
    (tasks.Plain (plain 8 1 (0x0a ∷ 0x0b ∷ 0x0c ∷ []) (Some outcomes.Completes))))
    ≡ 0x18 ∷ 0x05 ∷ 0xc0 ∷ 0x03 ∷ 0x00 ∷ 0x0c ∷ 0x29 ∷ 0x08 ∷ 0x01 ∷ 0x00 ∷ 0x00 ∷ 0x0a ∷ 0x0b ∷ 0x0c ∷ 0x00 ∷ 0x00 ∷ 0x00 ∷ 0xc7 ∷ 0xd5 ∷ []
unfolding octet_bits crc_step
case_11 = refl

-- the same for a spacecraft that is no rehearsal: no outcome
case_12 : telecommand_of (link 0 (pos 0) from_1970 false false)
    (flight (at 5 3) (asking true false false true) (tasks.Plain (plain 8 1 (0x0a ∷ 0x0b ∷ 0x0c ∷ []) None)))
    ≡ 0x18 ∷ 0x05 ∷ 0xc0 ∷ 0x03 ∷ 0x00 ∷ 0x09 ∷ 0x29 ∷ 0x08 ∷ 0x01 ∷ 0x00 ∷ 0x00 ∷ 0x0a ∷ 0x0b ∷ 0x0c ∷ 0x27 ∷ 0x24 ∷ []
unfolding octet_bits crc_step
case_12 = refl

-- greatest numbers
case_13 : telecommand_of (link 65535 (pos 0) from_1970 false true)
    (flight (at 2046 16383) (asking true true true true) (tasks.Plain (plain 255 255 ([]) (Some outcomes.Completes))))
    ≡ 0x1f ∷ 0xfe ∷ 0xff ∷ 0xff ∷ 0x00 ∷ 0x09 ∷ 0x2f ∷ 0xff ∷ 0xff ∷ 0xff ∷ 0xff ∷ 0x00 ∷ 0x00 ∷ 0x00 ∷ 0xa0 ∷ 0x20 ∷ []
unfolding octet_bits crc_step
case_13 = refl

-- enable
case_14 : telecommand_of (link 0 (pos 0) from_1970 false true) (flight (at 5 4) (asking false false false true) tasks.EnableSchedule)
    ≡ 0x18 ∷ 0x05 ∷ 0xc0 ∷ 0x04 ∷ 0x00 ∷ 0x06 ∷ 0x28 ∷ 0x0b ∷ 0x01 ∷ 0x00 ∷ 0x00 ∷ 0xa0 ∷ 0x9d ∷ []
unfolding octet_bits crc_step
case_14 = refl

-- disable
case_15 : telecommand_of (link 0 (pos 0) from_1970 false true) (flight (at 5 4) (asking false false false true) tasks.DisableSchedule)
    ≡ 0x18 ∷ 0x05 ∷ 0xc0 ∷ 0x04 ∷ 0x00 ∷ 0x06 ∷ 0x28 ∷ 0x0b ∷ 0x02 ∷ 0x00 ∷ 0x00 ∷ 0xf9 ∷ 0xcd ∷ []
unfolding octet_bits crc_step
case_15 = refl

-- reset
case_16 : telecommand_of (link 0 (pos 0) from_1970 false true) (flight (at 5 4) (asking false false false true) tasks.ResetSchedule)
    ≡ 0x18 ∷ 0x05 ∷ 0xc0 ∷ 0x04 ∷ 0x00 ∷ 0x06 ∷ 0x28 ∷ 0x0b ∷ 0x03 ∷ 0x00 ∷ 0x00 ∷ 0xce ∷ 0xfd ∷ []
unfolding octet_bits crc_step
case_16 = refl

-- summarize
case_17 : telecommand_of (link 0 (pos 0) from_1970 false true) (flight (at 5 4) (asking false false false true) tasks.SummarizeAll)
    ≡ 0x18 ∷ 0x05 ∷ 0xc0 ∷ 0x04 ∷ 0x00 ∷ 0x06 ∷ 0x28 ∷ 0x0b ∷ 0x11 ∷ 0x00 ∷ 0x00 ∷ 0xe3 ∷ 0xfe ∷ []
unfolding octet_bits crc_step
case_17 = refl

-- insert of one at 1060
case_18 : telecommand_of (link 0 (pos 0) from_1970 false true) (flight (at 5 1) (asking false false false true)
    (tasks.InsertActivities (activity 1060 (at 5 0) (asking true false false true) (plain 8 1 ([]) (Some outcomes.Completes)) ∷ [])))
    ≡ 0x18 ∷ 0x05 ∷ 0xc0 ∷ 0x01 ∷ 0x00 ∷ 0x1b ∷ 0x28 ∷ 0x0b ∷ 0x04 ∷ 0x00 ∷ 0x00 ∷ 0x01 ∷ 0x00 ∷ 0x00 ∷ 0x04 ∷ 0x24 ∷ 0x18 ∷ 0x05 ∷ 0xc0 ∷ 0x00
    ∷ 0x00 ∷ 0x09 ∷ 0x29 ∷ 0x08 ∷ 0x01 ∷ 0x00 ∷ 0x00 ∷ 0x00 ∷ 0x00 ∷ 0x00 ∷ 0x85 ∷ 0x69 ∷ 0x11 ∷ 0x75 ∷ []
unfolding octet_bits crc_step
case_18 = refl

-- the same with two octets of fine time
case_19 : telecommand_of (link 0 (pos 0) from_1970 true true) (flight (at 5 1) (asking false false false true)
    (tasks.InsertActivities (activity 1060 (at 5 0) (asking true false false true) (plain 8 1 ([]) (Some outcomes.Completes)) ∷ [])))
    ≡ 0x18 ∷ 0x05 ∷ 0xc0 ∷ 0x01 ∷ 0x00 ∷ 0x1d ∷ 0x28 ∷ 0x0b ∷ 0x04 ∷ 0x00 ∷ 0x00 ∷ 0x01 ∷ 0x00 ∷ 0x00 ∷ 0x04 ∷ 0x24 ∷ 0x00 ∷ 0x00 ∷ 0x18 ∷ 0x05
    ∷ 0xc0 ∷ 0x00 ∷ 0x00 ∷ 0x09 ∷ 0x29 ∷ 0x08 ∷ 0x01 ∷ 0x00 ∷ 0x00 ∷ 0x00 ∷ 0x00 ∷ 0x00 ∷ 0x85 ∷ 0x69 ∷ 0x33 ∷ 0xc7 ∷ []
unfolding octet_bits crc_step
case_19 = refl

-- insert of two, epoch 6 January 1980
case_20 : telecommand_of (link 0 (pos 315964800) from_1980 false true)
    (flight (at 5 9) (asking false false false true) (tasks.InsertActivities
    (activity 1700000000 (at 5 0) (asking true false false true) (plain 8 1 ([]) (Some outcomes.Completes))
    ∷ activity 4102444799 (at 5 1) (asking true false false false) (plain 8 1 ([]) (Some (outcomes.Fails 16))) ∷ [])))
    ≡ 0x18 ∷ 0x05 ∷ 0xc0 ∷ 0x09 ∷ 0x00 ∷ 0x2f ∷ 0x28 ∷ 0x0b ∷ 0x04 ∷ 0x00 ∷ 0x00 ∷ 0x02 ∷ 0x52 ∷ 0x7e ∷ 0xb3 ∷ 0x80 ∷ 0x18 ∷ 0x05 ∷ 0xc0 ∷ 0x00
    ∷ 0x00 ∷ 0x09 ∷ 0x29 ∷ 0x08 ∷ 0x01 ∷ 0x00 ∷ 0x00 ∷ 0x00 ∷ 0x00 ∷ 0x00 ∷ 0x85 ∷ 0x69 ∷ 0xe1 ∷ 0xb1 ∷ 0x19 ∷ 0x7f ∷ 0x18 ∷ 0x05 ∷ 0xc0 ∷ 0x01
    ∷ 0x00 ∷ 0x09 ∷ 0x21 ∷ 0x08 ∷ 0x01 ∷ 0x00 ∷ 0x00 ∷ 0x05 ∷ 0x00 ∷ 0x10 ∷ 0xba ∷ 0x3b ∷ 0xf9 ∷ 0x6d ∷ []
unfolding octet_bits crc_step
case_20 = refl

-- delete
case_21 : telecommand_of (link 7 (pos 0) from_1970 false true) (flight (at 5 2) (asking false false false true) (tasks.DeleteActivity (at 5 0)))
    ≡ 0x18 ∷ 0x05 ∷ 0xc0 ∷ 0x02 ∷ 0x00 ∷ 0x0d ∷ 0x28 ∷ 0x0b ∷ 0x05 ∷ 0x00 ∷ 0x07 ∷ 0x01 ∷ 0x00 ∷ 0x07 ∷ 0x00 ∷ 0x05 ∷ 0x00 ∷ 0x00 ∷ 0x09 ∷ 0x14 ∷ []
unfolding octet_bits crc_step
case_21 = refl

-- shift by 60
case_22 : telecommand_of (link 0 (pos 0) from_1970 false true)
    (flight (at 5 2) (asking false false false true) (tasks.ShiftActivity (at 5 0) (pos 60)))
    ≡ 0x18 ∷ 0x05 ∷ 0xc0 ∷ 0x02 ∷ 0x00 ∷ 0x11 ∷ 0x28 ∷ 0x0b ∷ 0x07 ∷ 0x00 ∷ 0x00 ∷ 0x00 ∷ 0x00 ∷ 0x00 ∷ 0x3c ∷ 0x01 ∷ 0x00 ∷ 0x00 ∷ 0x00 ∷ 0x05
    ∷ 0x00 ∷ 0x00 ∷ 0x5c ∷ 0x7b ∷ []
unfolding octet_bits crc_step
case_22 = refl

-- shift by -50
case_23 : telecommand_of (link 0 (pos 0) from_1970 false true)
    (flight (at 5 2) (asking false false false true) (tasks.ShiftActivity (at 5 0) (negsuc 49)))
    ≡ 0x18 ∷ 0x05 ∷ 0xc0 ∷ 0x02 ∷ 0x00 ∷ 0x11 ∷ 0x28 ∷ 0x0b ∷ 0x07 ∷ 0x00 ∷ 0x00 ∷ 0xff ∷ 0xff ∷ 0xff ∷ 0xce ∷ 0x01 ∷ 0x00 ∷ 0x00 ∷ 0x00 ∷ 0x05
    ∷ 0x00 ∷ 0x00 ∷ 0xc6 ∷ 0x62 ∷ []
unfolding octet_bits crc_step
case_23 = refl

-- shift all by -50, with fine time
case_24 : telecommand_of (link 0 (pos 0) from_1970 true true) (flight (at 5 2) (asking false false false true) (tasks.ShiftAll (negsuc 49)))
    ≡ 0x18 ∷ 0x05 ∷ 0xc0 ∷ 0x02 ∷ 0x00 ∷ 0x0c ∷ 0x28 ∷ 0x0b ∷ 0x0f ∷ 0x00 ∷ 0x00 ∷ 0xff ∷ 0xff ∷ 0xff ∷ 0xce ∷ 0x00 ∷ 0x00 ∷ 0xfb ∷ 0xcf ∷ []
unfolding octet_bits crc_step
case_24 = refl

-- shift all by the least offset
case_25 : telecommand_of (link 0 (pos 0) from_1970 false true) (flight (at 5 2) (asking false false false true) (tasks.ShiftAll (negsuc 2147483647)))
    ≡ 0x18 ∷ 0x05 ∷ 0xc0 ∷ 0x02 ∷ 0x00 ∷ 0x0a ∷ 0x28 ∷ 0x0b ∷ 0x0f ∷ 0x00 ∷ 0x00 ∷ 0x80 ∷ 0x00 ∷ 0x00 ∷ 0x00 ∷ 0xd3 ∷ 0xee ∷ []
unfolding octet_bits crc_step
case_25 = refl
