-- each key has a value that it may have
use Rattle.tc_octets.specs.declared.keys.Key.TheVariants as keys
use Rattle.tc_octets.proofs.profile_texts.tc_channel.Goals as goal

pub number_of-vcid-requires : goal.number_of-vcid-requires
number_of-vcid-requires c = c.requires.each keys.TcVcid

pub number_of-idle-requires : goal.number_of-idle-requires
number_of-idle-requires c = c.requires.each keys.TcIdle

pub is_yes-requires : goal.is_yes-requires
is_yes-requires c = c.requires.each keys.TcFecf

pub is_yes-requires-2 : goal.is_yes-requires-2
is_yes-requires-2 c = c.requires.each keys.TcRandomizer

pub is_yes-requires-3 : goal.is_yes-requires-3
is_yes-requires-3 c = c.requires.each keys.TcCorrect
