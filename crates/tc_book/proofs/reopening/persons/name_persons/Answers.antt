-- One row more, or one that does not.
use Rattle.std.proofs.Common.{◌∙◌, sym}
use Rattle.tc_book.proofs.ReopenLemmas.{all_more, all_at}
use Rattle.tc_book.proofs.reopening.persons.name_persons.Goals as goal

pub returns-then-not-names_persons : goal.returns-then-not-names_persons
returns-then-not-names_persons g c = (
  λ never. cc,
  λ all. sym c.if-not-names_persons.true ∙ c.names_persons.ensures.1 (all_at g.T.Naming.names c.args.rows.now c.loop-row.row-index c.row-item.result c.loop-row-test.true c.row-item.is all),
)

pub loop-row-preserved : goal.loop-row-preserved
loop-row-preserved g c =
    all_more g.T.Naming.names c.args.rows.now c.loop-row.row-index c.row-item.result c.loop-row-test.true c.row-item.is c.loop-row.invariant
    (c.names_persons.ensures.0 c.if-not-names_persons.false)
