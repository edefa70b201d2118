use Rattle.std.proofs.Common.{◌≡◌, Err, inl, inr, refl}
use Rattle.tc_types.specs.Counts.{inner_of}
use Rattle.tc_closed.proofs.EndsLemmas.{ends_by, ends_so, is_fault}
use Rattle.tc_run.proofs.TakeLemmas.{gives_none}
use Rattle.tc_run.proofs.kept.run_opened.Goals as goal

pub returns-in_err-tell_moves : goal.returns-in_err-tell_moves
returns-in_err-tell_moves g c =
    let gone : c.from_residual.result ≡ Err c.in_err-tell_moves.field-0.0 = is_fault _ _ c.from_residual.ensures.1 in
    let ends = c.in_err-tell_moves.ensures in
    rw gone (ends_by _ _ _ _ _ (inl (ends.stopped.0, ends.stopped.1, gives_none _, ends.stopped.2, refl)) ends.fault ends.counted)

pub returns : goal.returns
returns g c =
    let told = c.in_ok-tell_moves.ensures in
    ends_so _ _ _ _ _ _ _ c.run_room.result c.run_room.ensures told.counted
    (λ status run. (g.W.Write.contents (inner_of c.tell_moves.new.writer), told.done, run))
    (λ fault stops. inr (g.W.Write.contents (inner_of c.tell_moves.new.writer), told.done, stops))
