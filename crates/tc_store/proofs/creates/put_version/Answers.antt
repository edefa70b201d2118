use Rattle.tc_store.proofs.StepLemmas.{does_then}
use Rattle.tc_store.proofs.MetaLemmas.{versioned}
use Rattle.tc_store.proofs.creates.put_version.Goals as goal

pub returns : goal.returns
returns g c =
    does_then g.S.Store c.args.tx.now.conn c.run.new.tx.conn c.run.result c.run.ensures (λ ran.
    versioned g.S.Store c.args.tx.now.conn.now c.run.new.tx.conn.now c.run.result ran)
