use Rattle.std.proofs.Common.{◌≡◌, Err, false, inl, inr, ◌∷◌, [], refl}
use Rattle.std.proofs.lemmas.Result.{IfOk-weaker}
use Rattle.tc_types.specs.ActGrammar.{HasLongAct}
use Rattle.tc_types.specs.Loads.{line_of}
use Rattle.tc_closed.specs.Files.{file_at}
use Rattle.tc_closed.specs.declared.scripts.ScriptFault.TheVariants.{Memory}
use Rattle.tc_run.proofs.RunLemmas.{loads_nothing, loads_short}
use Rattle.tc_run.proofs.StopLemmas.{file_unanswered}
use Rattle.tc_closed.proofs.EndsLemmas.{is_fault}
use Rattle.tc_run.proofs.TakeLemmas.{gives_none}
use Rattle.tc_run.proofs.run.answer.Goals as goal

pub returns-in-Ok-clause-answered : goal.returns-in-Ok-clause-answered
returns-in-Ok-clause-answered g c =
    let short : HasLongAct c.args.line.now → ⊥ = loads_short c.args.line.now c.read_load.result c.in-Ok.load c.in-Ok.is c.read_load.ensures.too_long in
    IfOk-weaker c.answer_file.result _ _ (λ answer h. record { reply = h.0; files = file_at c.in-Ok.load.path.now h.1 ∷ []; answers = inl (line_of c.in-Ok.load, h.1, (c.in-Ok.ensures.found, short), refl, h.2, c.answer_file.ensures.link); given = h.3; text_is = h.4; refuses = h.5; opened = h.6 })
    c.answer_file.ensures.answered

pub returns-in-Ok-clause-unanswered : goal.returns-in-Ok-clause-unanswered
returns-in-Ok-clause-unanswered g c =
    let short : HasLongAct c.args.line.now → ⊥ = loads_short c.args.line.now c.read_load.result c.in-Ok.load c.in-Ok.is c.read_load.ensures.too_long in
    file_unanswered g.S.Store false _ _ c.args.line.now (line_of c.in-Ok.load) _ _ c.answer_file.result (c.in-Ok.ensures.found, short) c.answer_file.ensures.link
    c.answer_file.ensures.fault c.answer_file.ensures.unread c.answer_file.ensures.memory

pub returns-in_err-answer_line-in-Err-clause-unanswered : goal.returns-in_err-answer_line-in-Err-clause-unanswered
returns-in_err-answer_line-in-Err-clause-unanswered g c =
    let gone : c.from_residual.result ≡ Err Memory = is_fault _ _ c.from_residual.ensures.1 in
    let h = c.in_err-answer_line-in-Err.ensures.replied in
    rw gone ([], inl (h.reply, inr (refl, loads_nothing c.args.line.now c.read_load.result _ c.in-Err.is c.read_load.ensures.only, h.made)), gives_none _)

pub returns-in_ok-answer_line-in-Err-clause-answered : goal.returns-in_ok-answer_line-in-Err-clause-answered
returns-in_ok-answer_line-in-Err-clause-answered g c =
    let h = c.in_ok-answer_line-in-Err.ensures.replied in
    record {
      reply = h.reply;
      files = [];
      answers = inr (refl, loads_nothing c.args.line.now c.read_load.result _ c.in-Err.is c.read_load.ensures.only, h.made);
      given = gives_none _;
      text_is = h.says.0;
      refuses = h.says.2;
      opened = h.opened;
    }
