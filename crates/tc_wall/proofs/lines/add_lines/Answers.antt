-- One mark is looked at.
use Rattle.std.proofs.Common.{sym, ◌∙◌}
use Rattle.tc_wall.proofs.WalkLemmas.{lines_taken, lines_left, lines_done}
use Rattle.tc_wall.proofs.lines.add_lines.Goals as goal

pub loop-mark-preserved-in_ok-push : goal.loop-mark-preserved-in_ok-push
loop-mark-preserved-in_ok-push g c =
    lines_taken c.loop-mark.x c.in-Some.mark.now c.in-Some.others.now c.loop-mark.rest.now c.loop-mark.lines.items c.push.new.self.items _ c.in-Some.ensures.cases.0 (sym c.is_apart.ensures ∙ c.if-is_apart.true) c.in_ok-push.ensures.items c.loop-mark.invariant

pub loop-mark-preserved : goal.loop-mark-preserved
loop-mark-preserved g c = lines_left c.loop-mark.x c.in-Some.mark.now c.in-Some.others.now c.loop-mark.rest.now c.loop-mark.lines.items _ c.in-Some.ensures.cases.0 (sym c.is_apart.ensures ∙ c.if-is_apart.false) c.loop-mark.invariant

pub returns : goal.returns
returns g c = lines_done c.loop-mark.x c.loop-mark.rest.now c.loop-mark.lines.items _ c.in_default.ensures.cases c.loop-mark.invariant
