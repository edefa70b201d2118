use Rattle.std.proofs.Common.{rules, ◌≡◌, ◌∙◌, Bool, Err, List, ℕ, subst, sym}
use Rattle.std.specs.Io.KnownBytes.{Appends}
use Rattle.std.specs.String.{string_bytes}
use Rattle.tc_types.specs.Counts.{inner_of}
use Rattle.tc_run.specs.Run.{exchange}
use Rattle.tc_closed.specs.declared.scripts.ScriptFault.TheVariants.{Memory}
use Rattle.tc_closed.proofs.EndsLemmas.{ends_by, ends_well, is_fault, memory_is_other, output_is_other}
use Rattle.tc_run.proofs.RunLemmas.{came_answered, came_skipped}
use Rattle.tc_run.proofs.StopLemmas.{not_script, not_written, stopped_at_line, stopped_unanswered, stopped_unshown}
use Rattle.tc_run.proofs.run.run_line.Goals as goal

pub returns-then-is_skipped : goal.returns-then-is_skipped
returns-then-is_skipped g c =
    ends_well _ _ _ _ _ (came_skipped g.S.Store (g.T.Watch.echoes c.args.watch.now) c.args.room.now c.args.line.now (g.P.Paths.given c.args.paths.now) (g.W.Write.contents (inner_of c.args.writer.now)) (sym c.is_skipped.ensures ∙ c.if-is_skipped.true)) (λ none. none)

pub returns : goal.returns
returns g c =
    let bytes : c.deref.result.now ≡ exchange (g.T.Watch.echoes c.args.watch.now) c.args.line.now (string_bytes c.in_ok-answer.answer.text) =
    c.deref.ensures.value ∙ (rw c.echoes.ensures at c.in_ok-shown.ensures) in
    let appends = subst (λ (bytes : List ℕ). Appends (g.W.Write.contents (inner_of c.args.writer.now)) (g.W.Write.contents (inner_of c.put.new.writer)) bytes)
    bytes c.in_ok-put.ensures.writes.written in
    ends_well _ _ _ _ _ (came_answered g.S.Store _ _ _ _ _ _ _ _ c.in_ok-answer.answer.refusal _ _ (search rules) c.in_ok-answer.ensures.answered c.refused-refused.ensures appends) c.in_ok-put.ensures.counted

pub returns-in_err-put : goal.returns-in_err-put
returns-in_err-put g c =
    let gone : c.from_residual-in_err-put.result ≡ Err c.in_err-put.field-0.0 = is_fault _ _ c.from_residual-in_err-put.ensures.1 in
    let bytes : c.deref.result.now ≡ exchange (g.T.Watch.echoes c.args.watch.now) c.args.line.now (string_bytes c.in_ok-answer.answer.text) =
    c.deref.ensures.value ∙ (rw c.echoes.ensures at c.in_ok-shown.ensures) in
    rw gone (ends_by _ _ _ _ _ (stopped_at_line g.S.Store _ _ _ _ _ _ _ _ c.in_ok-answer.answer.refusal _ _ _ (search rules) c.in_ok-answer.ensures.answered bytes c.in_err-put.ensures.fault c.in_err-put.ensures.writes.cut)
    (output_is_other _ c.in_err-put.ensures.fault) c.in_err-put.ensures.counted)

pub returns-in_err-answer : goal.returns-in_err-answer
returns-in_err-answer g c =
    let gone : c.from_residual.result ≡ Err c.in_err-answer.field-0.0 = is_fault _ _ c.from_residual.ensures.1 in
    let why = c.in_err-answer.ensures.unanswered in
    rw gone (ends_by _ _ _ _ _ (stopped_unanswered g.S.Store (g.T.Watch.echoes c.args.watch.now) _ _ _ _ _ _ _ (sym c.is_skipped.ensures ∙ c.if-is_skipped.false) why)
    (not_script g.S.Store (g.T.Watch.echoes c.args.watch.now) _ _ _ _ _ _ why) (λ none. none ∙ not_written g.S.Store (g.T.Watch.echoes c.args.watch.now) Bool _ _ _ _ _ _ why))

pub returns-in_err-shown : goal.returns-in_err-shown
returns-in_err-shown g c =
    let gone : c.from_residual-in_err-shown.result ≡ Err Memory = is_fault _ _ c.from_residual-in_err-shown.ensures.1 in
    rw gone (ends_by _ _ _ _ _ (stopped_unshown g.S.Store (g.T.Watch.echoes c.args.watch.now) _ _ _ _ _ _ c.in_ok-answer.answer.refusal _ (search rules) c.in_ok-answer.ensures.answered) memory_is_other (λ none. none))
