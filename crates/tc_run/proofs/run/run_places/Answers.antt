use Rattle.std.proofs.Common.{◌≡◌, ◌∙◌, Err, List, ℕ, false, subst}
use Rattle.std.specs.Io.KnownBytes.{Appends}
use Rattle.tc_types.specs.Counts.{inner_of}
use Rattle.tc_closed.specs.declared.scripts.ScriptFault.TheVariants.{Memory}
use Rattle.tc_closed.proofs.EndsLemmas.{ends_by, ends_well, is_fault, memory_is_other, output_is_other}
use Rattle.tc_run.proofs.StopLemmas.{question_unanswered, stopped_in_question}
use Rattle.tc_run.proofs.run.run_places.Goals as goal

pub returns-in_err-last : goal.returns-in_err-last
returns-in_err-last g c =
    let gone : c.from_residual.result ≡ Err Memory = is_fault _ _ c.from_residual.ensures.1 in
    let h = c.in_err-last.ensures.answered.replied in
    rw gone (ends_by _ _ _ _ _ (question_unanswered g.S.Store false _ _ h.reply _ h.made) memory_is_other (λ none. none))

pub returns-in_err-put : goal.returns-in_err-put
returns-in_err-put g c =
    let gone : c.from_residual-in_err-put.result ≡ Err c.in_err-put.field-0.0 = is_fault _ _ c.from_residual-in_err-put.ensures.1 in
    let h = c.in_ok-last.ensures.answered.replied in
    rw gone (ends_by _ _ _ _ _ (stopped_in_question g.S.Store false _ _ _ _ c.in_ok-last.last.refusal _ _ _ (h.reply, h.made, h.says) c.as_bytes.ensures.value c.in_err-put.ensures.fault c.in_err-put.ensures.writes.cut)
    (output_is_other _ c.in_err-put.ensures.fault) c.in_err-put.ensures.counted)

pub returns : goal.returns
returns g c =
    let h = c.in_ok-last.ensures.answered.replied in
    ends_well _ _ _ _ _ (record {
      reply = h.reply;
      asked = h.made;
      written = subst (λ (bytes : List ℕ). Appends (g.W.Write.contents (inner_of c.args.writer.now)) (g.W.Write.contents (inner_of c.put.new.writer)) bytes) (c.as_bytes.ensures.value ∙ h.says.0) c.in_ok-put.ensures.writes.written;
      refusal = c.refused.ensures h.reply h.says.2;
      kept = c.in_ok-last.ensures.kept;
      leaves = c.in_ok-last.ensures.leaves;
    }) c.in_ok-put.ensures.counted
