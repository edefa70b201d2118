use Rattle.tc_octets.specs.declared.keys.Key.TheVariants as keys
use Rattle.tc_octets.proofs.ProfileValueLemmas.{window_even, window_number}
use Rattle.tc_octets.proofs.profile_texts.window_of.Goals as goal

pub number_of-requires : goal.number_of-requires
number_of-requires c = window_number _ (c.requires.each keys.TcWindow)

pub returns-clause-even : goal.returns-clause-even
returns-clause-even c = window_even _ _ (c.requires.each keys.TcWindow) c.number_of.ensures
