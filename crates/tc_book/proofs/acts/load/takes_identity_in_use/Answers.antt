-- One row more: its identity is in use with the rows before it exactly where it is without them.
use Rattle.std.proofs.Common.{sym, ◌∙◌}
use Rattle.tc_book.proofs.LoadLemmas.{takes_true, takes_false}
use Rattle.tc_book.proofs.acts.load.takes_identity_in_use.Goals as goal

pub returns-then-is_taken : goal.returns-then-is_taken
returns-then-is_taken g c = λ stamp name.
    sym (c.loop-at.invariant stamp name
    ∙ takes_true stamp name c.args.records.now.book c.args.rows.now c.loop-at.at c.index-rows-at.result c.requires.good c.requires.few c.loop-at-test.true c.index-rows-at.is (sym c.is_taken.ensures ∙ c.if-is_taken.true))

pub loop-at-preserved : goal.loop-at-preserved
loop-at-preserved g c = λ stamp name.
    c.loop-at.invariant stamp name
    ∙ takes_false stamp name c.args.records.now.book c.args.rows.now c.loop-at.at c.index-rows-at.result c.requires.good c.requires.few c.loop-at-test.true c.index-rows-at.is (sym c.is_taken.ensures ∙ c.if-is_taken.false)
