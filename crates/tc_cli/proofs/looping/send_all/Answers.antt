use Rattle.tc_cli.proofs.LoopLemmas.{loop_serves}
use Rattle.tc_cli.proofs.looping.send_all.Goals as goal

pub returns-in-Ok-sent-clause-served : goal.returns-in-Ok-sent-clause-served
returns-in-Ok-sent-clause-served g c = loop_serves g.S.Store _ _ c.opened-begun.ensures.promise c.in-Ok-sent.ensures.1
