use Rattle.std.proofs.Common.{◌≡◌, Err}
use Rattle.tc_closed.proofs.EndsLemmas.{ends_by, ends_well, is_fault}
use Rattle.tc_run.proofs.RunLemmas.{lines_run}
use Rattle.tc_run.proofs.StopLemmas.{lines_stopped}
use Rattle.tc_run.proofs.run.run_room.Goals as goal

pub returns-in_err-refused : goal.returns-in_err-refused
returns-in_err-refused g c =
    let gone : c.from_residual.result ≡ Err c.in_err-refused.field-0.0 = is_fault _ _ c.from_residual.ensures.1 in
    let ends = c.in_err-refused.ensures in
    rw gone (ends_by _ _ _ _ _ ends.stopped ends.fault ends.counted)

pub returns-in_err-last : goal.returns-in_err-last
returns-in_err-last g c =
    let gone : c.from_residual-in_err-last.result ≡ Err c.in_err-last.field-0.0 = is_fault _ _ c.from_residual-in_err-last.ensures.1 in
    let ends = c.in_err-last.ensures in
    rw gone (ends_by _ _ _ _ _ (lines_stopped g.S.Store _ _ _ _ _ _ _ _ _ _ _ _ c.in_ok-refused.ensures.done ends.stopped)
    ends.fault (λ none. ends.counted (c.in_ok-refused.ensures.counted none)))

pub returns : goal.returns
returns g c =
    rw c.status_of.ensures (ends_well _ _ _ _ _ (lines_run g.S.Store _ _ _ _ _ _ _ _ _ _ _ _ c.in_ok-refused.ensures.done c.in_ok-last.ensures.done c.opened-opened.ensures.promise)
    (λ none. c.in_ok-last.ensures.counted (c.in_ok-refused.ensures.counted none)))
