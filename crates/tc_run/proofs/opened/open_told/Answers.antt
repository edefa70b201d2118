use Rattle.std.proofs.Common.{inl, inr}
use Rattle.std.proofs.KnownBytes.{Appends-nil}
use Rattle.tc_run.proofs.StopLemmas.{unopened}
use Rattle.tc_run.proofs.opened.open_told.Goals as goal

pub returns-in-Ok-clause-stopped : goal.returns-in-Ok-clause-stopped
returns-in-Ok-clause-stopped g c =
    let cut = c.in-Err-tell_moves.ensures.stopped in
    inr (c.in-Ok.opened.room, c.in-Ok.opened.moves.items, cut.0, c.in-Ok.ensures.opened, rw c.deref.ensures.value at cut.1, cut.2, c.into_connection.ensures, c.opened-opened.ensures.promise)

pub returns-clause-stopped : goal.returns-clause-stopped
returns-clause-stopped g c =
    let e = c.in-Err.ensures in
    rw c.from.ensures (inl (unopened _ _ e.refused e.kind, Appends-nil _, e.stays))
