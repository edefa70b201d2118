use Rattle.std.proofs.Common.{◌∙◌, ap, map}
use Rattle.std.proofs.lemmas.Result.{IfOk-weaker}
use Rattle.serde_json.specs.Written.{compact_text, has_float}
use Rattle.tc_api.proofs.ResponseLemmas.{body_said, body_lacks_floats}
use Rattle.tc_api.proofs.responses.body_of.Goals as goal

pub returns : goal.returns
returns c =
    let said = body_said (λ line. line.now) c.args.lines.now _ _ c.args.refusal _ _ c.min.ensures c.saturating_sub-more.ensures c.in_ok-shown.ensures c.in_ok-body_value.ensures in
    IfOk-weaker c.to_string.result _ _ (λ body written. written (ap has_float said ∙ body_lacks_floats (map (λ line. line.now) c.args.lines.now) c.args.refusal) ∙ ap compact_text said) c.to_string.ensures.text
