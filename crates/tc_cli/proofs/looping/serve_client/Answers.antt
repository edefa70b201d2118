use Rattle.tc_cli.proofs.LoopLemmas.{serves_one}
use Rattle.tc_cli.proofs.looping.serve_client.Goals as goal

pub returns : goal.returns
returns g c = serves_one g.S.Store _ _ c.serve_one-served.ensures.step
