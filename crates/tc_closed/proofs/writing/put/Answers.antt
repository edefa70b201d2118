use Rattle.std.proofs.Common.{◌≡◌, Err}
use Rattle.tc_closed.specs.declared.scripts.ScriptFault.TheVariants.{Output}
use Rattle.tc_closed.proofs.EndsLemmas.{is_fault}
use Rattle.tc_closed.proofs.writing.put.Goals as goal

pub returns-in_err-write_whole-clause-writes : goal.returns-in_err-write_whole-clause-writes
returns-in_err-write_whole-clause-writes g c =
    let gone : c.from_residual.result ≡ Err Output = is_fault _ _ c.from_residual.ensures.1 in
    let writes = c.in_err-write_whole.ensures in
    rw gone record { written = tt; cut = writes.cut; counted = writes.counted }

pub returns-in_err-write_whole-clause-counted : goal.returns-in_err-write_whole-clause-counted
returns-in_err-write_whole-clause-counted g c =
    let gone : c.from_residual.result ≡ Err Output = is_fault _ _ c.from_residual.ensures.1 in
    rw gone c.in_err-write_whole.ensures.counted

pub returns-clause-writes : goal.returns-clause-writes
returns-clause-writes g c =
    let writes = c.in_ok-write_whole.ensures in
    record { written = writes.written; cut = tt; counted = writes.counted }
