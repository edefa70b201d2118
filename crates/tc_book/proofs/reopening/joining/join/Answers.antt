-- What no command is told by, no request is.
use Rattle.tc_book.proofs.CargoLemmas.{none_made}
use Rattle.tc_book.proofs.reopening.joining.join.Goals as goal

pub returns-in_err-command : goal.returns-in_err-command
returns-in_err-command c = rw c.from_residual.ensures (none_made c.args.row.now c.args.own.now c.in_err-command.ensures)
