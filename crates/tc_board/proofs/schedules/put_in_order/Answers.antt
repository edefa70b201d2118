-- The order of the keys is that of the activities.
use Rattle.std.proofs.Common.{rules}
use Rattle.std.proofs.lemmas.Result.{on_ok_weaker}
use Rattle.tc_board.proofs.SortLemmas.{by_parts, sorted_by_key}
use Rattle.tc_board.proofs.schedules.put_in_order.Goals as goal

pub returns-clause-ordered : goal.returns-clause-ordered
returns-clause-ordered g c =
    on_ok_weaker c.sort_by_key.result (λ sorted. sorted_by_key (λ a. (a.time, a.identity.apid, a.identity.count)) by_parts _ sorted (λ a r q k. search rules)) c.sort_by_key.ensures.sorted
