-- each key has a value that it may have
use Rattle.tc_octets.specs.declared.keys.Key.TheVariants as keys
use Rattle.tc_octets.proofs.profile_texts.profile_of.Goals as goal

pub number_of-scid-requires : goal.number_of-scid-requires
number_of-scid-requires c = c.requires.each keys.Scid

pub number_of-apid-requires : goal.number_of-apid-requires
number_of-apid-requires c = c.requires.each keys.Apid

pub number_of-source-requires : goal.number_of-source-requires
number_of-source-requires c = c.requires.each keys.Source

pub is_yes-requires : goal.is_yes-requires
is_yes-requires c = c.requires.each keys.Rehearsal
