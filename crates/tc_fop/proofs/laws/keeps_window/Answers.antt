use Rattle.tc_fop.proofs.FrontLemmas.{words_window, ticks_window, offers_window, directives_window}
use Rattle.tc_fop.proofs.laws.keeps_window.Goals as goal

pub returns-clause-words : goal.returns-clause-words
returns-clause-words c = words_window

pub returns-clause-ticks : goal.returns-clause-ticks
returns-clause-ticks c = ticks_window

pub returns-clause-offers : goal.returns-clause-offers
returns-clause-offers c = offers_window

pub returns-clause-directives : goal.returns-clause-directives
returns-clause-directives c = directives_window
