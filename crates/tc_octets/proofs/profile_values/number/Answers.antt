use Rattle.tc_octets.proofs.NumberWords.{not_shortest, not_text, parsed}
use Rattle.tc_octets.proofs.profile_values.number.Goals as goal

pub returns-then-not-is_shortest : goal.returns-then-not-is_shortest
returns-then-not-is_shortest c = not_shortest _ _ c.is_shortest.ensures c.if-not-is_shortest.true

pub returns-in-Err : goal.returns-in-Err
returns-in-Err c = not_text _ c.in-Err.ensures.cases.0

pub returns-in-Ok : goal.returns-in-Ok
returns-in-Ok c =
    rw c.ok.ensures.value (parsed _ _ _ c.is_shortest.ensures c.if-not-is_shortest.false (rw c.in-Ok.ensures.cases.0 at c.parse.ensures.value.0))
