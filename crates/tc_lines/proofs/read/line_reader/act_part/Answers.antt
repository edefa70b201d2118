use Rattle.std.proofs.Common.{◌∷◌, ap, ◌∙◌}
use Rattle.tc_lines.proofs.ActSpellings.{act_part_after}
use Rattle.tc_lines.proofs.read.line_reader.act_part.Goals as goal

pub returns : goal.returns
returns c =
    act_part_after c.args.text.now c.cut.result.0.now c.cut-2.result.0.now c.cut-2.result.1 ((rw c.in_ok-rest.was at c.cut.ensures) ∙ ap (λ others. c.cut.result.0.now ∷ others) c.cut-2.ensures)
