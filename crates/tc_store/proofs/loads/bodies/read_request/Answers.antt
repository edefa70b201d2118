use Rattle.tc_store.proofs.ShowLemmas.{whole_row}
use Rattle.tc_store.proofs.loads.bodies.read_request.Goals as goal

pub returns-clause-reads : goal.returns-clause-reads
returns-clause-reads c long =
    let b = c.in_ok-body.ensures.reads in
    let o = c.in_ok-origin.ensures.reads in
    whole_row c.args.row.now _ long (
      c.in_ok-number.ensures.reads,
      (b.apid, (b.count, (b.ack, (c.in_ok-critical.ensures.reads, (b.service, (b.subtype, (b.target, (b.time, (b.outcome, (c.in_ok-author.ensures.reads, (o.0, (o.1, (o.2, (c.in_ok-place.ensures.reads, tt)))))))))))))),
    )
