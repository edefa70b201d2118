use Rattle.tc_store.proofs.StepLemmas.{does_then}
use Rattle.tc_store.specs.Ledgers.{answer_of}
use Rattle.tc_store.proofs.ReplyLemmas.{replied}
use Rattle.tc_store.proofs.replies.put_reply.Goals as goal

pub returns : goal.returns
returns g c =
    does_then g.S.Store c.args.tx.now.conn c.run.new.tx.conn c.run.result c.run.ensures (λ ran.
    replied g.S.Store (answer_of c.args.row.now) c.args.tx.now.conn.now c.run.new.tx.conn.now c.run.result (
    rw (
      c.params-to_sql.ensures,
      c.params-to_sql-2.ensures,
      c.params-to_sql-3.ensures,
      c.get-number.ensures.value,
      c.as_str.ensures.text,
      c.name-person.ensures.value,
    ) at ran
    ))
