use Rattle.tc_fop.proofs.CallLemmas.{words_move, ticks_move, offers_move, directives_move}
use Rattle.tc_fop.proofs.laws.moves.Goals as goal

pub returns-clause-words : goal.returns-clause-words
returns-clause-words c = words_move

pub returns-clause-ticks : goal.returns-clause-ticks
returns-clause-ticks c = ticks_move

pub returns-clause-offers : goal.returns-clause-offers
returns-clause-offers c = offers_move

pub returns-clause-directives : goal.returns-clause-directives
returns-clause-directives c = directives_move
