use Rattle.tc_fop.proofs.TableLemmas.{words_requests, ticks_requests, offers_requests, directives_requests}
use Rattle.tc_fop.proofs.laws.keeps_requests.Goals as goal

pub returns-clause-words : goal.returns-clause-words
returns-clause-words c = words_requests

pub returns-clause-ticks : goal.returns-clause-ticks
returns-clause-ticks c = ticks_requests

pub returns-clause-offers : goal.returns-clause-offers
returns-clause-offers c = offers_requests

pub returns-clause-directives : goal.returns-clause-directives
returns-clause-directives c = directives_requests
