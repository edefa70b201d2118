use Rattle.std.proofs.Common.{rules, take}
use Rattle.tc_types.proofs.StepTextLaws.{IsUtf8-step_text}
use Rattle.tc_types.proofs.step_texts.StepText.as_str.Goals as goal

pub unwrap-requires : goal.unwrap-requires
unwrap-requires c = search (rules, IsUtf8-step_text (take c.self.inside.len c.self.inside.bytes) c.self.invariant.3)
