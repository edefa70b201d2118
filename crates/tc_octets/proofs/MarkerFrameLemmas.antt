-- A telemetry frame is one by its length, its check, its version and its spacecraft.
use Rattle.std.proofs.Common.{◌≡◌, ℕ, ◌-◌, Bool, true, false, List, take, length, Result, Ok, Err, is_ok, refl, sym, ap, ◌∙◌}
use Rattle.std.specs.Prelude.{◌==◌, ◌&&◌}
use Rattle.std.proofs.lemmas.Bool.{and_from, and_left, and_right, eq-eqb, ne_eqb, true≢false}
use Rattle.tc_octets.specs.Bits.{pair_at}
use Rattle.tc_octets.specs.Crc.{crc_of}
use Rattle.tc_octets.specs.Markers.{check_holds, is_tm_frame}
use Rattle.tc_octets.specs.TmFrames.{IsTmFrame, TmParts, TmReads, tm_frame_of, tm_parts, tm_scid_in, tm_version_in}
use Rattle.tc_octets.specs.declared.profiles.Profile.{Profile}
use Rattle.tc_octets.specs.declared.tm_frames.TmFrame.{TmFrame}
use Rattle.tc_octets.specs.declared.tm_frames.TmFault.{TmFault}
use Rattle.tc_octets.specs.declared.tm_frames.TmFault.TheVariants as faults
use Rattle.tc_octets.proofs.TmFrameLaws.{passes_there}

pub frame_length : (profile : Profile) (parts : TmParts) → IsTmFrame profile parts → length (tm_frame_of profile parts) ≡ profile.tm.length
frame_length profile parts is = let passes = passes_there profile parts is in passes.long

check_right : (fecf : Bool) (octets : List ℕ) → (fecf ≡ true → pair_at octets (length octets - 2) ≡ crc_of (take (length octets - 2) octets))
    → check_holds fecf octets ≡ true
check_right false octets checked = refl
check_right true octets checked = eq-eqb (pair_at octets (length octets - 2)) (crc_of (take (length octets - 2) octets)) (checked refl)

pub frame_is : (profile : Profile) (parts : TmParts) → IsTmFrame profile parts → is_tm_frame profile (tm_frame_of profile parts) ≡ true
unfolding is_tm_frame
frame_is profile parts is =
    let octets = tm_frame_of profile parts in
    let passes = passes_there profile parts is in
    and_from (length octets == profile.tm.length) (check_holds profile.tm.fecf octets &&
    ((tm_version_in octets == 0) && (tm_scid_in octets == profile.scid)))
    (eq-eqb (length octets) profile.tm.length passes.long)
    (and_from (check_holds profile.tm.fecf octets) ((tm_version_in octets == 0) && (tm_scid_in octets == profile.scid))
    (check_right profile.tm.fecf octets passes.checked)
    (and_from (tm_version_in octets == 0) (tm_scid_in octets == profile.scid) (eq-eqb (tm_version_in octets) 0 passes.version)
    (eq-eqb (tm_scid_in octets) profile.scid passes.spacecraft)))

check_fails : (fecf : Bool) (octets : List ℕ) → ¬ (fecf ≡ true → pair_at octets (length octets - 2) ≡ crc_of (take (length octets - 2) octets))
    → check_holds fecf octets ≡ false
check_fails false octets wrong = absurd (wrong (λ e. absurd (true≢false (sym e))))
check_fails true octets wrong = ne_eqb (pair_at octets (length octets - 2)) (crc_of (take (length octets - 2) octets)) (λ e. wrong (λ good. e))

-- what a reader says of octets
pub read_is : (profile : Profile) (octets : List ℕ) (read : Result TmFrame TmFault) → TmReads profile octets read
    → is_ok read ≡ is_tm_frame profile octets
unfolding is_tm_frame
read_is profile octets (Ok frame) says = sym (ap (is_tm_frame profile) says.1 ∙ frame_is profile (tm_parts frame) says.0)
read_is profile octets (Err faults.Length) says =
    sym (and_left (length octets == profile.tm.length)
    (check_holds profile.tm.fecf octets && ((tm_version_in octets == 0) && (tm_scid_in octets == profile.scid)))
    (ne_eqb (length octets) profile.tm.length says))
read_is profile octets (Err faults.Check) says =
    sym (and_right (length octets == profile.tm.length)
    (check_holds profile.tm.fecf octets && ((tm_version_in octets == 0) && (tm_scid_in octets == profile.scid)))
    (and_left (check_holds profile.tm.fecf octets) ((tm_version_in octets == 0) && (tm_scid_in octets == profile.scid))
    (check_fails profile.tm.fecf octets says.1)))
read_is profile octets (Err faults.Version) says =
    sym (and_right (length octets == profile.tm.length)
    (check_holds profile.tm.fecf octets && ((tm_version_in octets == 0) && (tm_scid_in octets == profile.scid)))
    (and_right (check_holds profile.tm.fecf octets) ((tm_version_in octets == 0) && (tm_scid_in octets == profile.scid))
    (and_left (tm_version_in octets == 0) (tm_scid_in octets == profile.scid) (ne_eqb (tm_version_in octets) 0 says.2))))
read_is profile octets (Err faults.Spacecraft) says =
    sym (and_right (length octets == profile.tm.length)
    (check_holds profile.tm.fecf octets && ((tm_version_in octets == 0) && (tm_scid_in octets == profile.scid)))
    (and_right (check_holds profile.tm.fecf octets) ((tm_version_in octets == 0) && (tm_scid_in octets == profile.scid))
    (and_right (tm_version_in octets == 0) (tm_scid_in octets == profile.scid) (ne_eqb (tm_scid_in octets) profile.scid says.3))))
