use Rattle.tc_octets.proofs.ProfileTextLemmas.{values_sound}
use Rattle.tc_octets.proofs.profile_texts.answer_of.Goals as goal

pub profile_of-profile-requires : goal.profile_of-profile-requires
profile_of-profile-requires c = values_sound c.args.text.now c.in_default.ensures
