use Rattle.tc_fop.specs.Calls.{offered, directed, ticked}
use Rattle.tc_fop.proofs.FairLemmas.{given_stands}
use Rattle.tc_fop.proofs.laws.stands_fairly.Goals as goal

pub returns-clause-ticks : goal.returns-clause-ticks
returns-clause-ticks c = λ m new out taking e again. given_stands (ticked m) m new out (c.standing_lists.ensures.ticks m taking) e again

pub returns-clause-offers : goal.returns-clause-offers
returns-clause-offers c = λ m w new out e again. given_stands (offered m w) m new out (c.standing_lists.ensures.offers m w) e again

pub returns-clause-directives : goal.returns-clause-directives
returns-clause-directives c = λ m directive new out other taking e again. given_stands (directed m directive) m new out (c.standing_lists.ensures.directives m directive other taking) e again
