use Rattle.tc_fop.proofs.FrontLemmas.{words_front, ticks_front, offers_front, directives_front}
use Rattle.tc_fop.proofs.laws.confirms_front.Goals as goal

pub returns-clause-words : goal.returns-clause-words
returns-clause-words c = words_front

pub returns-clause-ticks : goal.returns-clause-ticks
returns-clause-ticks c = ticks_front

pub returns-clause-offers : goal.returns-clause-offers
returns-clause-offers c = offers_front

pub returns-clause-directives : goal.returns-clause-directives
returns-clause-directives c = directives_front
