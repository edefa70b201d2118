-- Worked cases of reports, which show that the definitions are the ones that were meant.
use Rattle.std.proofs.Common.{◌≡◌, ℕ, ℤ, pos, Bool, true, false, [], ◌∷◌, Some, None, refl, arith}
use Rattle.tc_types.specs.declared.link.reports.Verification.TheVariants as verification
use Rattle.tc_octets.specs.Bits.{octet_bits}
use Rattle.tc_octets.specs.Epochs.{IsEpoch}
use Rattle.tc_octets.specs.Crc.{crc_step}
use Rattle.tc_octets.specs.declared.profiles.Profile.{Profile}
use Rattle.tc_packets.specs.Reports.{report_of}
use Rattle.tc_packets.specs.declared.told.Told.TheVariants as told
use Rattle.tc_packets.proofs.EpochCases.{from_1970, from_1980}

-- a profile of the defaults, but for these settings
abbrev profile_of : ℕ → (epoch : ℤ) → IsEpoch epoch → Bool → Profile
profile_of source epoch within fine = record {
  scid = 1;
  tc = record {
    vcid = 3;
    map = None;
    window = 20;
    fecf = true;
    randomizer = false;
    idle = 0;
    correct = false;
    vcid_fits = omega arith;
    window_fits = omega arith;
    window_stands = omega arith;
    window_even = refl;
  };
  tm = record { length = 1115; vcid = 0; fecf = true; length_fits = omega arith; length_stands = omega arith; vcid_fits = omega arith };
  apid = 1;
  source = source;
  epoch = epoch;
  fine = fine;
  rehearsal = true;
  scid_fits = omega arith;
  apid_fits = omega arith;
  apid_stands = omega arith;
  epoch_fits = within;
}

acceptance : report_of (profile_of 0 (pos 0) from_1970 false) 0 1000 (told.Verification verification.Accepted (record { apid = 5; count = 0 }))
    ≡ 0x08 ∷ 0x01 ∷ 0xc0 ∷ 0x00 ∷ 0x00 ∷ 0x10 ∷ 0x20 ∷ 0x01 ∷ 0x01 ∷ 0x00 ∷ 0x00 ∷ 0x00 ∷ 0x00 ∷ 0x00 ∷ 0x00 ∷ 0x03 ∷ 0xe8 ∷ 0x18 ∷ 0x05 ∷ 0xc0 ∷
    0x00 ∷ 0x8a ∷ 0xbc ∷ []
unfolding octet_bits crc_step
acceptance = refl

step_failed : report_of (profile_of 0 (pos 0) from_1970 false) 5 1000
    (told.Verification (verification.StepFailed 2 40) (record { apid = 5; count = 0 }))
    ≡ 0x08 ∷ 0x01 ∷ 0xc0 ∷ 0x05 ∷ 0x00 ∷ 0x12 ∷ 0x20 ∷ 0x01 ∷ 0x06 ∷ 0x00 ∷ 0x00 ∷ 0x00 ∷ 0x00 ∷ 0x00 ∷ 0x00 ∷ 0x03 ∷ 0xe8 ∷ 0x18 ∷ 0x05 ∷ 0xc0 ∷
    0x00 ∷ 0x02 ∷ 0x28 ∷ 0x3a ∷ 0xa7 ∷ []
unfolding octet_bits crc_step
step_failed = refl

fine_time : report_of (profile_of 7 (pos 315964800) from_1980 true) 6 1700000000
    (told.Verification verification.Completed (record { apid = 5; count = 0 }))
    ≡ 0x08 ∷ 0x01 ∷ 0xc0 ∷ 0x06 ∷ 0x00 ∷ 0x12 ∷ 0x20 ∷ 0x01 ∷ 0x07 ∷ 0x00 ∷ 0x00 ∷ 0x00 ∷ 0x07 ∷ 0x52 ∷ 0x7e ∷ 0xb3 ∷ 0x80 ∷ 0x00 ∷ 0x00 ∷ 0x18 ∷
    0x05 ∷ 0xc0 ∷ 0x00 ∷ 0xbf ∷ 0x8e ∷ []
unfolding octet_bits crc_step
fine_time = refl

summary : report_of (profile_of 0 (pos 0) from_1970 false) 7 1000
    (told.Summary (record { enabled = Some true; activities = record { time = 1060; identity = record { apid = 5; count = 0 } } ∷ [] }))
    ≡ 0x08 ∷ 0x01 ∷ 0xc0 ∷ 0x07 ∷ 0x00 ∷ 0x18 ∷ 0x20 ∷ 0x0b ∷ 0x0d ∷ 0x00 ∷ 0x00 ∷ 0x00 ∷ 0x00 ∷ 0x00 ∷ 0x00 ∷ 0x03 ∷ 0xe8 ∷ 0x01 ∷ 0x00 ∷ 0x00 ∷
    0x04 ∷ 0x24 ∷ 0x00 ∷ 0x00 ∷ 0x00 ∷ 0x05 ∷ 0x00 ∷ 0x00 ∷ 0x01 ∷ 0x48 ∷ 0x62 ∷ []
unfolding octet_bits crc_step
summary = refl
