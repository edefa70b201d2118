use Rattle.std.proofs.Common.{inr, refl}
use Rattle.tc_copy.proofs.TryLemmas.{told_why}
use Rattle.tc_copy.proofs.copying.judged.Goals as goal

pub returns-then-is_one_state : goal.returns-then-is_one_state
returns-then-is_one_state c =
    let one = c.is_one_state.ensures in
    let true = c.if-is_one_state.true in
    (c.args.before.now, c.args.behind.now, refl, one.told.0 true, one.copied true)

pub returns-in-Some : goal.returns-in-Some
returns-in-Some c =
    let why = c.why_unpaired.ensures in
    (c.args.behind.now, told_why c.args.behind.now _ c.in-Some.why c.in-Some.is why.named why.unlogged why.unopened, inr (c.args.before.now, refl))
