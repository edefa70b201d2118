-- The profile of the defaults is the one of the empty text.
use Rattle.std.proofs.Common.{◌≡◌, pos, true, false, None, Ok, [], ap, arith}
use Rattle.std.specs.Fmt.{decimal, digits, signed_decimal}
use Rattle.tc_octets.specs.declared.profiles.Profile.{Profile}
use Rattle.tc_octets.specs.declared.keys.Key.{Key}
use Rattle.tc_octets.specs.declared.keys.Key.TheVariants as keys
use Rattle.tc_octets.specs.ProfileKeys.{default_of, fine_word, map_word, spelled, yes_no}
use Rattle.tc_octets.specs.ProfileTexts.{AreSound, ProfileReads, statements}

-- a profile with these values
record IsStandard (profile : Profile) : Type 0 where
  pub scid : profile.scid ≡ 1
  pub tc_vcid : profile.tc.vcid ≡ 3
  pub map : profile.tc.map ≡ None
  pub window : profile.tc.window ≡ 20
  pub tc_fecf : profile.tc.fecf ≡ true
  pub randomizer : profile.tc.randomizer ≡ false
  pub idle : profile.tc.idle ≡ 0
  pub correct : profile.tc.correct ≡ false
  pub size : profile.tm.length ≡ 1115
  pub tm_vcid : profile.tm.vcid ≡ 0
  pub tm_fecf : profile.tm.fecf ≡ true
  pub apid : profile.apid ≡ 1
  pub source : profile.source ≡ 0
  pub epoch : profile.epoch ≡ pos 0
  pub fine : profile.fine ≡ false
  pub rehearsal : profile.rehearsal ≡ true

each_spelled : (profile : Profile) → IsStandard profile → (key : Key) → spelled profile key ≡ default_of key
unfolding digits
each_spelled profile h keys.Scid = ap decimal h.scid
each_spelled profile h keys.TcVcid = ap decimal h.tc_vcid
each_spelled profile h keys.TcMap = ap map_word h.map
each_spelled profile h keys.TcWindow = ap decimal h.window
each_spelled profile h keys.TcFecf = ap yes_no h.tc_fecf
each_spelled profile h keys.TcRandomizer = ap yes_no h.randomizer
each_spelled profile h keys.TcIdle = ap decimal h.idle
each_spelled profile h keys.TcCorrect = ap yes_no h.correct
each_spelled profile h keys.TmLength = ap decimal h.size
each_spelled profile h keys.TmVcid = ap decimal h.tm_vcid
each_spelled profile h keys.TmFecf = ap yes_no h.tm_fecf
each_spelled profile h keys.Apid = ap decimal h.apid
each_spelled profile h keys.Source = ap decimal h.source
each_spelled profile h keys.TimeEpoch = ap signed_decimal h.epoch
each_spelled profile h keys.TimeFine = ap fine_word h.fine
each_spelled profile h keys.Rehearsal = ap yes_no h.rehearsal

nothing_wrong : AreSound 0 (statements [])
nothing_wrong place below = absurd (omega arith)

is_read : (profile : Profile) → IsStandard profile → ProfileReads [] (Ok profile)
is_read profile h =
    let idle = h.idle in
    let source = h.source in (
      record { short = omega arith; sound = nothing_wrong },
      record { idle = omega arith; source = omega arith; checked = λ correct. h.tc_fecf },
      each_spelled profile h,
    )

is_standard : (profile : Profile) → profile.scid ≡ 1 → profile.tc.vcid ≡ 3 → profile.tc.map ≡ None → profile.tc.window ≡ 20 → profile.tc.fecf ≡ true
    → profile.tc.randomizer ≡ false → profile.tc.idle ≡ 0 → profile.tc.correct ≡ false → profile.tm.length ≡ 1115 → profile.tm.vcid ≡ 0
    → profile.tm.fecf ≡ true → profile.apid ≡ 1 → profile.source ≡ 0 → profile.epoch ≡ pos 0 → profile.fine ≡ false → profile.rehearsal ≡ true
    → IsStandard profile
is_standard profile scid tc_vcid map window tc_fecf randomizer idle correct size tm_vcid tm_fecf apid source epoch fine rehearsal =
    record {
      scid = scid;
      tc_vcid = tc_vcid;
      map = map;
      window = window;
      tc_fecf = tc_fecf;
      randomizer = randomizer;
      idle = idle;
      correct =
          correct;
      size = size;
      tm_vcid = tm_vcid;
      tm_fecf = tm_fecf;
      apid = apid;
      source = source;
      epoch = epoch;
      fine = fine;
      rehearsal = rehearsal;
    }

pub standard_spelled : (profile : Profile) → profile.scid ≡ 1 → profile.tc.vcid ≡ 3 → profile.tc.map ≡ None → profile.tc.window ≡ 20
    → profile.tc.fecf ≡ true → profile.tc.randomizer ≡ false → profile.tc.idle ≡ 0 → profile.tc.correct ≡ false → profile.tm.length ≡ 1115
    → profile.tm.vcid ≡ 0 → profile.tm.fecf ≡ true → profile.apid ≡ 1 → profile.source ≡ 0 → profile.epoch ≡ pos 0 → profile.fine ≡ false
    → profile.rehearsal ≡ true → (key : Key) → spelled profile key ≡ default_of key
standard_spelled profile scid tc_vcid map window tc_fecf randomizer idle correct size tm_vcid tm_fecf apid source epoch fine rehearsal =
    each_spelled profile (is_standard profile scid tc_vcid map window tc_fecf randomizer idle correct size tm_vcid tm_fecf apid source epoch fine
    rehearsal)

pub standard_read : (profile : Profile) → profile.scid ≡ 1 → profile.tc.vcid ≡ 3 → profile.tc.map ≡ None → profile.tc.window ≡ 20
    → profile.tc.fecf ≡ true → profile.tc.randomizer ≡ false → profile.tc.idle ≡ 0 → profile.tc.correct ≡ false → profile.tm.length ≡ 1115
    → profile.tm.vcid ≡ 0 → profile.tm.fecf ≡ true → profile.apid ≡ 1 → profile.source ≡ 0 → profile.epoch ≡ pos 0 → profile.fine ≡ false
    → profile.rehearsal ≡ true → ProfileReads [] (Ok profile)
standard_read profile scid tc_vcid map window tc_fecf randomizer idle correct size tm_vcid tm_fecf apid source epoch fine rehearsal =
    is_read profile (is_standard profile scid tc_vcid map window tc_fecf randomizer idle correct size tm_vcid tm_fecf apid source epoch fine
    rehearsal)
