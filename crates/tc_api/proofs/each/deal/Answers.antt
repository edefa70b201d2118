use Rattle.std.proofs.Common.{refl, rules}
use Rattle.tc_api.proofs.EachLemmas.{fresh_exchange}
use Rattle.tc_api.proofs.each.deal.Goals as goal

pub returns : goal.returns
returns g c = (
  c.serve_one-served.ensures.step.0,
  record {
    left = _;
    after = _;
    response = search rules;
    exchange = fresh_exchange g.S.Store _ _ _ _ _ _ _ _ (rw c.new-reader.ensures.wrapped refl) c.new-reader.ensures.begun (rw c.new-writer.ensures.wrapped (search rules)) c.new-writer.ensures.begun c.serve_one-served.ensures.exchange;
    serves = c.serve_one-served.ensures.step.1;
    kept = c.serve_one-served.ensures.kept;
    stopped = refl;
  },
)
