use Rattle.tc_words.proofs.NumberLemmas.{ring_within}
use Rattle.tc_words.proofs.given.ring_of.Goals as goal

pub returns-clause-size : goal.returns-clause-size
returns-clause-size c = ring_within _ c.number_within.ensures.range
