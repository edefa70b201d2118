-- What was said is what was put.
use Rattle.std.proofs.Common.{◌≡◌, ◌∙◌, Err, subst}
use Rattle.std.specs.Io.KnownBytes.{Appends}
use Rattle.tc_types.specs.Counts.{inner_of}
use Rattle.tc_front.specs.Write.{IsCutShort}
use Rattle.tc_closed.proofs.CheckingLemmas.{turned}
use Rattle.tc_closed.proofs.EndsLemmas.{ends_by, ends_well, is_fault, output_is_other}
use Rattle.tc_closed.proofs.checking.write_checked.Goals as goal

pub returns-in_err-put : goal.returns-in_err-put
returns-in_err-put g c =
    let gone : c.from_residual.result ≡ Err c.in_err-put.field-0.0 = is_fault _ _ c.from_residual.ensures.1 in
    let put = c.in_err-put.ensures in
    let cut = put.writes.cut in
    rw gone (ends_by _ _ _ _ _ (put.fault, cut.0, subst (λ b. IsCutShort b cut.0) c.as_bytes.ensures.value cut.1, cut.2) (output_is_other _ put.fault) put.counted)

pub returns : goal.returns
returns g c =
    ends_well _ _ _ _ _ (
      subst (λ b. Appends (g.W.Write.contents (inner_of c.args.writer.now)) (g.W.Write.contents (inner_of c.put.new.writer)) b) c.as_bytes.ensures.value c.in_ok-put.ensures.writes.written,
      c.status_of.ensures ∙ turned c.args.checked.now.is_ok,
    ) c.in_ok-put.ensures.counted
