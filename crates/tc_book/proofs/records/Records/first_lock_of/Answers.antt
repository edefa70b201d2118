-- The first that is held back, or none.
use Rattle.std.proofs.Common.{sym, ◌∙◌}
use Rattle.tc_book.proofs.WaitingLemmas.{locks_found, locks_none}
use Rattle.tc_book.proofs.records.Records.first_lock_of.Goals as goal

pub returns-in-Some : goal.returns-in-Some
returns-in-Some g c = locks_found c.args.self.now.book c.args.numbers.now c.loop-number.number-index 0 c.in-Some.lock c.loop-number-test.true c.loop-number.invariant (sym c.lock_of.ensures ∙ c.in-Some.is)

pub loop-number-preserved : goal.loop-number-preserved
loop-number-preserved g c = locks_none c.args.self.now.book c.args.numbers.now c.loop-number.number-index 0 c.loop-number-test.true c.loop-number.invariant (sym c.lock_of.ensures ∙ c.in_default.is)
