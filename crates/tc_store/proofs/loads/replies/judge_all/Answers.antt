use Rattle.std.proofs.Common.{◌≡◌, ◌∷◌, [], get_or, length, take, drop, arith, subst, sym, take_all, rules}
use Rattle.std.specs.List.{AllByRecursion}
use Rattle.std.proofs.lemmas.List.{take_more}
use Rattle.sqlite_value.specs.Order.{Row}
use Rattle.sqlite_keyed.proofs.ListLemmas.{all-append}
use Rattle.tc_store.specs.Shows.{AreOfReply}
use Rattle.tc_store.proofs.LoadLemmas.{all_at}
use Rattle.tc_store.proofs.loads.replies.judge_all.Goals as goal

pub rows-preserved : goal.rows-preserved
rows-preserved c wide =
    let rows = c.args.rows.now in
    let row = get_or rows c.rows.row-index _ in
    let judged : AreOfReply (drop 1 row) = (rw c.row-item.is at c.in_ok-judge_reply.ensures.judged) (all_at (λ (row : Row). length row ≡ 4) rows c.rows.row-index _ c.rows-test.true wide) in
    subst (AllByRecursion (λ (row : Row). AreOfReply (drop 1 row))) (sym (take_more rows c.rows.row-index _ c.rows-test.true))
    (all-append (λ (row : Row). AreOfReply (drop 1 row)) (take c.rows.row-index rows) (row ∷ []) (c.rows.invariant wide) (judged, tt))

pub returns-clause-judged : goal.returns-clause-judged
returns-clause-judged c wide = subst (AllByRecursion (λ (row : Row). AreOfReply (drop 1 row))) (take_all c.rows.row-index c.args.rows.now (omega (arith, c.rows-test.false))) (c.rows.invariant wide)

pub returns-in_err-judge_reply-clause-back : goal.returns-in_err-judge_reply-clause-back
returns-in_err-judge_reply-clause-back c all =
    let rows = c.args.rows.now in
    search (rules, (rw c.row-item.is at c.in_err-judge_reply.ensures.back) (all_at (λ (row : Row). AreOfReply (drop 1 row)) rows c.rows.row-index _ c.rows-test.true all))
