use Rattle.tc_store.proofs.StepLemmas.{does_then}
use Rattle.tc_store.proofs.RequestLemmas.{entered}
use Rattle.tc_store.proofs.requests.put_request.Goals as goal

pub returns : goal.returns
returns g c =
    does_then g.S.Store c.args.tx.now.conn c.put_columns.new.tx.conn c.put_columns.result c.put_columns.ensures (λ ran.
    entered g.S.Store c.args.request c.args.tx.now.conn.now c.put_columns.new.tx.conn.now c.put_columns.result ran)
