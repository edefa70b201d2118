use Rattle.std.proofs.Common.{rules}
use Rattle.std.proofs.lemmas.Result.{err_from_is_err_and}
use Rattle.tc_front.proofs.WriteLemmas.{fault_counts, kept_appends, none_appends, none_counts, put_counts, put_cut, put_on}
use Rattle.tc_front.proofs.write.write_whole.Goals as goal

pub loop-done-preserved : goal.loop-done-preserved
loop-done-preserved g c = record {
  within = search rules;
  written = put_on _ _ _ _ _ _ c.loop-done.invariant.written c.in_ok-count.ensures.bytes;
  counts = λ fresh. put_counts _ _ _ _ (c.loop-done.invariant.counts fresh) c.if-count-eq0.false c.in_ok-count.ensures.counted;
}

pub returns-then-count-eq0 : goal.returns-then-count-eq0
returns-then-count-eq0 g c = record {
  written = tt;
  cut = put_cut _ _ _ _ _ c.loop-done-test.true c.loop-done.invariant.written (none_appends _ _ _ _ c.if-count-eq0.true c.in_ok-count.ensures.bytes);
  counted = λ fresh. none_counts _ _ _ _ _ (c.loop-done.invariant.counts fresh) c.loop-done-test.true c.if-count-eq0.true c.in_ok-count.ensures.counted;
}

pub returns-in_err-count : goal.returns-in_err-count
returns-in_err-count g c =
    let gone = err_from_is_err_and c.from_residual.result c.from_residual.ensures.1 in
    rw gone.1 (record {
      written = tt;
      cut = put_cut _ _ _ _ _ c.loop-done-test.true c.loop-done.invariant.written (kept_appends _ _ c.in_err-count.ensures.bytes);
      counted = λ fresh. fault_counts _ _ (c.loop-done.invariant.counts fresh) c.in_err-count.ensures.counted;
    })
