use Rattle.std.proofs.Common.{sym}
use Rattle.tc_octets.proofs.LineLemmas.{ended_line, last_line}
use Rattle.tc_octets.proofs.statements.first_line.Goals as goal

pub returns-in-Some : goal.returns-in-Some
returns-in-Some c = rw c.without_cr.ensures (ended_line _ _ (sym c.in-Some.ensures))

pub returns-in-None : goal.returns-in-None
returns-in-None c = last_line _ c.requires (sym c.in-None.ensures)
