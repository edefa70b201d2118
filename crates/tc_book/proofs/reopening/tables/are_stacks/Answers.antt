-- The stack that the next request begins is the next of these.
use Rattle.std.proofs.Common.{◌∙◌, ap, sym}
use Rattle.std.specs.List.{cons_option}
use Rattle.tc_book.specs.Stacks.{begun_by}
use Rattle.tc_book.proofs.ReopenLemmas.{rest_more, rest_none}
use Rattle.tc_book.proofs.reopening.tables.are_stacks.Goals as goal

pub returns-in-None : goal.returns-in-None
returns-in-None c = (
  λ never. cc,
  λ is. absurd (rest_none (begun_by c.args.requests.now) c.args.requests.now c.loop-request.request-index c.request-item.result c.args.stacks.now c.loop-request.rest.now c.loop-request-test.true c.request-item.is c.loop-request.invariant
      (λ others here. c.in-None.ensures others (here ∙ ap (λ o. cons_option o others) (sym c.begun_by.ensures))) is),
)

pub loop-request-preserved : goal.loop-request-preserved
loop-request-preserved c =
    rest_more (begun_by c.args.requests.now) c.args.requests.now c.loop-request.request-index c.request-item.result c.args.stacks.now c.loop-request.rest.now c.in-Some.others.now c.loop-request-test.true c.request-item.is c.loop-request.invariant
    (c.in-Some.ensures ∙ ap (λ o. cons_option o c.in-Some.others.now) c.begun_by.ensures)
