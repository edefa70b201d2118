use Rattle.std.proofs.Common.{rules}
use Rattle.sqlite.specs.Held.{state}
use Rattle.tc_store.proofs.LoadLemmas.{stays_after, spares_after, spares_failing}
use Rattle.tc_store.proofs.ReadLemmas.{fails_back}
use Rattle.tc_store.proofs.loads.table_rows.rows_of.Goals as goal

pub returns-in-Ok-clause-same : goal.returns-in-Ok-clause-same
returns-in-Ok-clause-same g c clean = stays_after g.S.Store c.args.text.now c.requires.quiet _ c.args.conn.now c.query_all.new.self c.in-Ok.rows.items (c.in-Ok.ensures.ok clean)

pub returns-in-Ok-clause-left : goal.returns-in-Ok-clause-left
returns-in-Ok-clause-left g c =
    spares_after g.S.Store c.args.text.now c.requires.quiet _ c.args.conn.now c.query_all.new.self c.in-Ok.rows.items c.in-Ok.ensures.ok c.query_all.ensures.survives c.query_all.ensures.mode

pub returns-in-Err-clause-left : goal.returns-in-Err-clause-left
returns-in-Err-clause-left g c =
    spares_failing g.S.Store c.args.text.now c.requires.quiet _ c.args.conn.now c.query_all.new.self c.in-Err.error (c.is_autocommit.ensures.settled (search rules)) c.in-Err.ensures.err c.query_all.ensures.survives
    c.query_all.ensures.mode

pub returns-in-Err-clause-back : goal.returns-in-Err-clause-back
returns-in-Err-clause-back g c clean layout version has =
    fails_back c.args.text.now c.requires.quiet _ (state g.S.Store c.args.conn.now) (state g.S.Store c.query_all.new.self) layout version has c.in-Err.error (c.in-Err.ensures.err clean)
