use Rattle.tc_fop.proofs.AlertLemmas.{words_back, ticks_back, offers_back, directives_back}
use Rattle.tc_fop.proofs.laws.alerts_give_back.Goals as goal

pub returns-clause-words : goal.returns-clause-words
returns-clause-words c = words_back

pub returns-clause-ticks : goal.returns-clause-ticks
returns-clause-ticks c = ticks_back

pub returns-clause-offers : goal.returns-clause-offers
returns-clause-offers c = offers_back

pub returns-clause-directives : goal.returns-clause-directives
returns-clause-directives c = directives_back
