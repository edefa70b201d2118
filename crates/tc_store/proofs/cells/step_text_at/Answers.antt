use Rattle.std.proofs.Common.{rules, ◌≡◌, ◌<◌, length, sym, ◌∙◌}
use Rattle.tc_types.proofs.StepTextLaws.{IsUtf8-step_text}
use Rattle.tc_store.proofs.cells.step_text_at.Goals as goal

pub returns-in_err-text-clause-back : goal.returns-in_err-text-clause-back
returns-in_err-text-clause-back c was spelled shows =
    search (rules, c.in_err-text.ensures.back was (IsUtf8-step_text was spelled) shows)
