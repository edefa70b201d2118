use Rattle.tc_fop.proofs.TableLemmas.{words_order, ticks_order, offers_order, directives_order}
use Rattle.tc_fop.proofs.laws.keeps_order.Goals as goal

pub returns-clause-words : goal.returns-clause-words
returns-clause-words c = words_order

pub returns-clause-ticks : goal.returns-clause-ticks
returns-clause-ticks c = ticks_order

pub returns-clause-offers : goal.returns-clause-offers
returns-clause-offers c = offers_order

pub returns-clause-directives : goal.returns-clause-directives
returns-clause-directives c = directives_order
