use Rattle.std.proofs.Common.{◌∙◌, inr, rules, sym}
use Rattle.tc_check.proofs.scripts.script_line.Goals as goal

pub returns-in_ok-twice_text-in-None : goal.returns-in_ok-twice_text-in-None
returns-in_ok-twice_text-in-None c = (
  sym c.is_skipped.ensures ∙ c.if-is_skipped.false,
  inr (search rules, sym c.names_twice.ensures ∙ c.if-names_twice.true, c.in_ok-twice_text-in-None.ensures),
)
