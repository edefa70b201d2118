use Rattle.tc_fop.specs.Calls.{offered, reported, ticked}
use Rattle.tc_fop.proofs.WidthLemmas.{kept_k}
use Rattle.tc_fop.proofs.laws.keeps_k.Goals as goal

pub returns-clause-words : goal.returns-clause-words
returns-clause-words c = λ m word new out e. kept_k (reported m word) m new out (c.k_cells.ensures.words m word) e

pub returns-clause-ticks : goal.returns-clause-ticks
returns-clause-ticks c = λ m new out e. kept_k (ticked m) m new out (c.k_cells.ensures.ticks m) e

pub returns-clause-offers : goal.returns-clause-offers
returns-clause-offers c = λ m w new out e. kept_k (offered m w) m new out (c.k_cells.ensures.offers m w) e
