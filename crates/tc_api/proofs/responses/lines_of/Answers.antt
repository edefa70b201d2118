use Rattle.std.proofs.Common.{rules, ◌≡◌, length}
use Rattle.std.specs.Prelude.{vec_len}
use Rattle.tc_api.proofs.ResponseLemmas.{popped_lines}
use Rattle.tc_api.proofs.responses.lines_of.Goals as goal

pub returns : goal.returns
returns c =
    let counted : vec_len c.in_ok-lines.lines ≡ length c.in_ok-lines.lines.items = search rules in
    popped_lines _ _ _ _ _ c.in_ok-lines.ensures counted c.pop.ensures.rest
