-- None, or the last and those before it.
use Rattle.std.proofs.Common.{sym, ◌∙◌}
use Rattle.tc_wall.proofs.WalkLemmas.{lines_none, lines_some}
use Rattle.tc_wall.proofs.lines.lines_of.Goals as goal

pub returns-in_default : goal.returns-in_default
returns-in_default g c = c.new-lines.ensures.items ∙ sym (lines_none c.args.axis.now c.in_default.ensures.cases)

pub returns : goal.returns
returns g c = lines_some c.args.axis.now c.in-Some.others.now c.new-lines.result.items c.push.new.self.items c.add_lines.new.lines.items c.in-Some.last.now c.in-Some.ensures.cases.0 c.new-lines.ensures.items c.in_ok-push.ensures.items c.in_ok-add_lines.ensures
