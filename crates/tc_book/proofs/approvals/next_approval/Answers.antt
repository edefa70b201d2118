-- What is kept of this request.
use Rattle.std.proofs.Common.{arith, refl}
use Rattle.tc_book.proofs.approvals.next_approval.Goals as goal

pub overflow_add-result : goal.overflow_add-result
overflow_add-result c = let few = c.count.ensures.few in omega (arith, few)

pub returns-in-None : goal.returns-in-None
returns-in-None c = rw c.in-None.ensures refl

pub returns-in-Some : goal.returns-in-Some
returns-in-Some c = rw (c.in-Some.ensures, c.count.ensures.count, c.wanted.ensures) refl
