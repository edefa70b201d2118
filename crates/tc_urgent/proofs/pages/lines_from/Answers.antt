-- Past the last line there is none.
use Rattle.std.proofs.Common.{◌-◌, drop, ap, ◌∙◌, rules}
use Rattle.std.proofs.lemmas.List.{drop_min, take_rest}
use Rattle.tc_urgent.proofs.pages.lines_from.Goals as goal

pub returns : goal.returns
returns c = take_rest c.args.lines.now c.min-start.result ∙ ap (λ n. drop n c.args.lines.now) (search rules) ∙ drop_min (c.args.from - 1) c.args.lines.now
