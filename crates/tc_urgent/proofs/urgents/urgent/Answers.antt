-- The order of the keys is that of the lines.
use Rattle.std.proofs.Common.{rules}
use Rattle.tc_urgent.specs.Laws.{by_rank, rank}
use Rattle.tc_urgent.proofs.SortLemmas.{sorted_by_key}
use Rattle.tc_urgent.proofs.urgents.urgent.Goals as goal

pub returns-clause-sorted : goal.returns-clause-sorted
returns-clause-sorted g c = sorted_by_key rank by_rank _ c.in_ok-sort_by_key.ensures.sorted (λ a r q k. search rules)
