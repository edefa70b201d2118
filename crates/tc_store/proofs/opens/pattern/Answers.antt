use Rattle.std.proofs.Common.{rules}
use Rattle.sqlite.proofs.Callers.{memory_is_clean}
use Rattle.tc_store.proofs.opens.pattern.Goals as goal

pub returns-in-Ok : goal.returns-in-Ok
returns-in-Ok c = record { made = λ fits. c.in-Ok.ensures (memory_is_clean c.make_as.new.conn) fits (search rules) }
