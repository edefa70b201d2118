use Rattle.tc_fop.specs.Calls.{offered, directed, reported, ticked}
use Rattle.tc_fop.proofs.FairLemmas.{given_may}
use Rattle.std.proofs.Common.{Some}
use Rattle.tc_fop.proofs.laws.tells_fairly.Goals as goal

pub returns-clause-words : goal.returns-clause-words
returns-clause-words c = λ level m word new out h e. given_may level m.state (reported m (Some word)) m new out h e

pub returns-clause-ticks : goal.returns-clause-ticks
returns-clause-ticks c = λ level m new out e. given_may level m.state (ticked m) m new out (c.fair_lists.ensures.ticks level m) e

pub returns-clause-offers : goal.returns-clause-offers
returns-clause-offers c = λ level m w new out e. given_may level m.state (offered m w) m new out (c.fair_lists.ensures.offers level m w) e

pub returns-clause-directives : goal.returns-clause-directives
returns-clause-directives c = λ level m directive new out e. given_may level m.state (directed m directive) m new out (c.fair_lists.ensures.directives level m directive) e
