-- each key has a value that it may have
use Rattle.tc_octets.specs.declared.keys.Key.TheVariants as keys
use Rattle.tc_octets.proofs.profile_texts.tm_channel.Goals as goal

pub number_of-length-requires : goal.number_of-length-requires
number_of-length-requires c = c.requires.each keys.TmLength

pub number_of-vcid-requires : goal.number_of-vcid-requires
number_of-vcid-requires c = c.requires.each keys.TmVcid

pub is_yes-requires : goal.is_yes-requires
is_yes-requires c = c.requires.each keys.TmFecf
