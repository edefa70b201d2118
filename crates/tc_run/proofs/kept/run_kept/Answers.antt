use Rattle.std.proofs.Common.{◌∙◌, ℕ, inl, inr}
use Rattle.tc_closed.proofs.EndsLemmas.{ends_by, ends_so}
use Rattle.tc_run.proofs.StopLemmas.{unopened, unopened_other, unopened_unwritten, untouched}
use Rattle.tc_run.proofs.kept.run_kept.Goals as goal

pub returns-in-Ok : goal.returns-in-Ok
returns-in-Ok g c = ends_so _ _ _ _ _ _ _ c.run_opened-ended.result c.run_opened-ended.ensures (λ none. none)
    (λ status run. (c.in-Ok.opened.room, c.in-Ok.opened.moves.items, c.run_opened-ended.new.room, c.in-Ok.ensures.opened, rw c.deref.ensures.value at run, c.into_connection.ensures))
    (λ fault stops. inr (c.in-Ok.opened.room, c.in-Ok.opened.moves.items, c.run_opened-ended.new.room, c.in-Ok.ensures.opened, rw c.deref.ensures.value at stops, c.into_connection.ensures, c.opened-opened.ensures.promise))

pub returns-in-Err : goal.returns-in-Err
returns-in-Err g c =
    let e = c.in-Err.ensures in
    let un = unopened _ _ e.refused e.kind in
    rw c.from.ensures (ends_by _ _ _ _ _ (inl (un, untouched _ _, e.stays)) (unopened_other _ _ un) (λ none. none ∙ unopened_unwritten ℕ _ _ un))
