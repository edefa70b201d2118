-- The page was written, or a front of it.
use Rattle.std.proofs.Common.{[], inl, inr, refl, rules, subst}
use Rattle.std.proofs.lemmas.Result.{IfOk-weaker}
use Rattle.std.specs.Io.KnownBytes.{Appends}
use Rattle.std.specs.String.{string_bytes}
use Rattle.std.proofs.KnownBytes.{Appends-nil}
use Rattle.tc_types.specs.Counts.{inner_of}
use Rattle.tc_front.specs.Write.{IsCutShort}
use Rattle.tc_closed.proofs.ReportLemmas.{on_err, on_err_then, on_ok}
use Rattle.tc_closed.proofs.walls.write_wall.Goals as goal

pub returns-clause-told : goal.returns-clause-told
returns-clause-told g c clean =
    IfOk-weaker c.put.result _ _ (λ done wrote version ledger is_told held.
    let told = c.in_ok-page.ensures.page.told clean version ledger is_told held in
    let put = subst (λ bytes. Appends (g.W.Write.contents (inner_of c.args.writer.now)) (g.W.Write.contents (inner_of c.put.new.writer)) bytes) c.as_bytes.ensures.value wrote in
    (told.0, string_bytes c.in_ok-page.page, told.1, put)) c.put.ensures.writes.written

pub returns-in_err-page-clause-cut : goal.returns-in_err-page-clause-cut
returns-in_err-page-clause-cut g c clean = on_err c.from_residual.result _ (λ version ledger is_told held. ([], inl refl, Appends-nil _))

pub returns-clause-cut : goal.returns-clause-cut
returns-clause-cut g c clean = on_err_then c.put.result _ _ c.put.ensures.writes.cut (λ cut version ledger is_told held.
    let told = c.in_ok-page.ensures.page.told clean version ledger is_told held in
    (cut.0, inr (told.0, string_bytes c.in_ok-page.page, told.1, subst (λ bytes. IsCutShort bytes cut.0) c.as_bytes.ensures.value cut.1), cut.2))

pub returns-clause-prints : goal.returns-clause-prints
returns-clause-prints g c = record { reads = on_ok c.put.result _ c.in_ok-page.ensures.page.reads; left = c.in_ok-page.ensures.page.left; fault = search rules; counted = search rules }

pub returns-clause-judged : goal.returns-clause-judged
returns-clause-judged g c clean = on_ok c.put.result _ (c.in_ok-page.ensures.judged clean)
