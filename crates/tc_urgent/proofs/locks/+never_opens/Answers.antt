-- By whether there is a line further on, and whether it is lost.
use Rattle.std.proofs.Common.{rules, refl, sym, ◌∙◌, arith}
use Rattle.tc_urgent.proofs.NeverLemmas.{never_before, never_lost, never_none}
use Rattle.tc_urgent.proofs.locks.+never_opens.Goals as goal

pub returns-then-most-eq0 : goal.returns-then-most-eq0
returns-then-most-eq0 g t c = rw c.if-most-eq0.true refl

pub returns-then-stands : goal.returns-then-stands
returns-then-stands g t c =
    never_lost c.args.most c.args.book.now.book c.args.n c.in-Some.before c.stands.result (omega arith) (sym c.awaited.ensures ∙ c.in-Some.is) c.stands.ensures c.if-stands.true

pub returns-else-stands : goal.returns-else-stands
returns-else-stands g t c =
    never_before c.args.most c.args.book.now.book c.args.n c.in-Some.before c.stands.result c.never_opens.result (omega arith) (sym c.awaited.ensures ∙ c.in-Some.is) c.stands.ensures c.if-stands.false c.never_opens.ensures

pub returns-in-None : goal.returns-in-None
returns-in-None g t c = never_none c.args.most c.args.book.now.book c.args.n (omega arith) (sym c.awaited.ensures ∙ c.in-None.is)
