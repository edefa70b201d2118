use Rattle.tc_types.proofs.NumberLaws.{not_plain, not_text, parsed}
use Rattle.tc_lines.proofs.read.readers.number.Goals as goal

pub returns-then-not-is_plain : goal.returns-then-not-is_plain
returns-then-not-is_plain c = not_plain _ _ c.is_plain.ensures c.if-not-is_plain.true

pub returns-in-Err : goal.returns-in-Err
returns-in-Err c = not_text _ c.in-Err.ensures.cases.0

pub returns-in-Ok : goal.returns-in-Ok
returns-in-Ok c =
    rw c.ok.ensures.value (parsed _ _ _ c.is_plain.ensures c.if-not-is_plain.false (rw c.in-Ok.ensures.cases.0 at c.parse.ensures.value.0))
