use Rattle.tc_lines.proofs.ActSpellings.{short_act}
use Rattle.tc_lines.proofs.read.line_reader.read_line.Goals as goal

pub returns-then-has_long_act-clause-only : goal.returns-then-has_long_act-clause-only
returns-then-has_long_act-clause-only c =
    λ line h short. absurd (short_act _ line h short (c.has_long_act.ensures.0 c.if-has_long_act.true))
