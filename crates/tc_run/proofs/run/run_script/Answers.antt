use Rattle.tc_closed.proofs.EndsLemmas.{ends_so}
use Rattle.tc_run.proofs.RunLemmas.{run_answered}
use Rattle.tc_run.proofs.StopLemmas.{run_stopped, run_unopened}
use Rattle.tc_run.proofs.run.run_script.Goals as goal

pub returns-in_err-room : goal.returns-in_err-room
returns-in_err-room g c = run_unopened _ _ _ _ _ _ _ _ c.from_residual.result c.in_err-room.ensures.refused c.in_err-room.ensures.kind c.from_residual.ensures.1

pub returns : goal.returns
returns g c = ends_so _ _ _ _ _ _ _ c.run_room-ended.result c.run_room-ended.ensures (λ none. none)
    (λ status run. run_answered _ _ _ _ _ _ _ _ _ _ c.in_ok-room.ensures.opened run)
    (λ fault stops. run_stopped _ _ _ _ _ _ _ _ _ _ c.in_ok-room.ensures.opened stops c.opened-opened.ensures.promise)
