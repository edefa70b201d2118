use Rattle.tc_store.proofs.StepLemmas.{does_then}
use Rattle.tc_store.proofs.CargoLemmas.{carried}
use Rattle.tc_store.proofs.cargo.put_cargo.Goals as goal

-- The list names this function's own calls, so that it is written for each kind of row.
pub returns : goal.returns
returns g c =
    does_then g.S.Store c.args.tx.now.conn c.run.new.tx.conn c.run.result c.run.ensures (λ ran.
    carried g.S.Store c.args.row c.args.tx.now.conn.now c.run.new.tx.conn.now c.run.result (
    rw (
      c.params-to_sql.ensures,
      c.params-to_sql-2.ensures,
      c.params-to_sql-3.ensures,
      c.params-to_sql-4.ensures,
      c.get-request.ensures.value,
      c.from-position.ensures,
      c.get-time.ensures.value,
    ) at ran
    ))
