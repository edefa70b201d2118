-- A transfer frame tells its own length, so it comes back through its CLTU.
use Rattle.std.proofs.Common.{◌≡◌, ℕ, ◌+◌, ◌*◌, ◌/◌, ◌%◌, ◌^◌, ◌≤◌, Bool, true, false, List, ◌++◌, length, get_or}
use Rattle.std.proofs.Common.{arith}
use Rattle.std.proofs.lemmas.List.{length-append}
use Rattle.tc_octets.specs.Bits.{pair}
use Rattle.tc_octets.specs.Crc.{crc_of}
use Rattle.tc_octets.specs.TcFrames.{Carried, ad, unlock, set_vr, IsCarried, check_length, closed, data_field, header_of, segment_header, tc_frame_of}
use Rattle.tc_octets.specs.Cltus.{told_length}
use Rattle.tc_octets.specs.declared.profiles.Profile.{Profile}
use Rattle.tc_octets.proofs.TcFrameLemmas.{closed_keeps}

closed_size : (fecf : Bool) (octets : List ℕ) → length (closed fecf octets) ≡ length octets + check_length fecf
closed_size false octets = omega arith
closed_size true octets = length-append octets (pair (crc_of octets))

pub check_small : (fecf : Bool) → check_length fecf ≤ 2
check_small false = omega arith
check_small true = omega arith

pub frame_size : (profile : Profile) (carried : Carried)
    → length (tc_frame_of profile carried) ≡ 5 + length (data_field profile.tc carried) + check_length profile.tc.fecf
frame_size profile carried = omega (arith, closed_size profile.tc.fecf (header_of profile carried ++ data_field profile.tc carried))

-- at most 1,024 octets
pub frame_small : (profile : Profile) (carried : Carried) → IsCarried profile.tc carried → length (tc_frame_of profile carried) ≤ 1024
frame_small profile (ad ns packet) may =
    omega (arith, may.2, frame_size profile (ad ns packet), length-append (segment_header profile.tc.map) packet)
frame_small profile unlock may = omega (arith, frame_size profile unlock, check_small profile.tc.fecf)
frame_small profile (set_vr vr) may = omega (arith, frame_size profile (set_vr vr), check_small profile.tc.fecf)

-- the frame length field is the number of octets less 1
pub frame_told : (profile : Profile) (carried : Carried) → length (tc_frame_of profile carried) ≤ 1024
    → told_length (tc_frame_of profile carried) ≡ length (tc_frame_of profile carried)
frame_told profile carried small =
    let number = profile.tc.vcid * 2 ^ 10 + (4 + length (data_field profile.tc carried) + check_length profile.tc.fecf) in
    let third : get_or (tc_frame_of profile carried) 2 0 ≡ number / 256 =
    closed_keeps profile.tc.fecf (header_of profile carried ++ data_field profile.tc carried) 2 (omega arith) in
    let fourth : get_or (tc_frame_of profile carried) 3 0 ≡ number % 256 =
    closed_keeps profile.tc.fecf (header_of profile carried ++ data_field profile.tc carried) 3 (omega arith) in
    omega (arith, third, fourth, frame_size profile carried)
