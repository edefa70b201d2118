use Rattle.std.proofs.Common.{◌∙◌, sym}
use Rattle.tc_check.proofs.MarkLemmas.{marked, unmarked}
use Rattle.tc_check.proofs.file_lines.without_mark.Goals as goal

pub returns-then-has_mark : goal.returns-then-has_mark
returns-then-has_mark c = (marked c.args.text.now (sym c.has_mark.ensures ∙ c.if-has_mark.true)).1

pub returns-else-has_mark : goal.returns-else-has_mark
returns-else-has_mark c = unmarked c.args.text.now (sym c.has_mark.ensures ∙ c.if-has_mark.false)
