-- What was counted the tables hold still, and a crash leaves it.
use Rattle.tc_store.specs.Ledgers.{newest}
use Rattle.tc_room.proofs.TableLemmas.{read_kept, read_left}
use Rattle.tc_room.proofs.counts.count_all.Goals as goal

pub returns-in_default-clause-kept : goal.returns-in_default-clause-kept
returns-in_default-clause-kept g c = read_kept g.S.Store c.args.tables.now c.counts.new.self c.counts.result c.counts.ensures.reads

pub returns-in_default-clause-left : goal.returns-in_default-clause-left
returns-in_default-clause-left g c = read_left g.S.Store c.args.tables.now c.counts.new.self c.counts.result c.counts.ensures.reads

pub returns-in_err-entered-clause-kept : goal.returns-in_err-entered-clause-kept
returns-in_err-entered-clause-kept g c = read_kept g.S.Store c.args.tables.now c.counts.new.self c.counts.result c.counts.ensures.reads

pub returns-in_err-entered-clause-left : goal.returns-in_err-entered-clause-left
returns-in_err-entered-clause-left g c = read_left g.S.Store c.args.tables.now c.counts.new.self c.counts.result c.counts.ensures.reads

pub returns-clause-kept : goal.returns-clause-kept
returns-clause-kept g c = read_kept g.S.Store c.args.tables.now c.counts.new.self c.counts.result c.counts.ensures.reads

pub returns-clause-left : goal.returns-clause-left
returns-clause-left g c = read_left g.S.Store c.args.tables.now c.counts.new.self c.counts.result c.counts.ensures.reads

pub returns-clause-places : goal.returns-clause-places
returns-clause-places g c = λ clean ledger has. c.in-Ok.ensures.counts clean newest ledger has.holds

pub returns-clause-same : goal.returns-clause-same
returns-clause-same g c = λ clean ledger has. record {
  holds = c.in-Ok.ensures.reads.same clean newest ledger has.holds;
  leaves = read_left g.S.Store c.args.tables.now c.counts.new.self c.counts.result c.counts.ensures.reads clean ledger has;
}
