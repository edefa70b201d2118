use Rattle.std.proofs.Common.{◌≡◌, rules}
use Rattle.tc_types.proofs.StepTextLaws.{step_text_laid_out}
use Rattle.tc_types.proofs.step_texts.StepText.read.Goals as goal

pub invariant_of-result : goal.invariant_of-result
invariant_of-result c =
    let e : c.copy_from_slice.new.self ≡ c.args.bytes.now = c.copy_from_slice.ensures.after in
    rw e (step_text_laid_out c.args.bytes.now (search rules))
