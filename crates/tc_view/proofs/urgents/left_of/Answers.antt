-- After the last line there is none.
use Rattle.std.proofs.Common.{drop, ap, ◌∙◌, rules}
use Rattle.std.proofs.lemmas.List.{drop_min, take_rest}
use Rattle.tc_view.proofs.urgents.left_of.Goals as goal

pub returns : goal.returns
returns c = take_rest c.args.lines.now c.min-start.result ∙ ap (λ n. drop n c.args.lines.now) (search rules) ∙ drop_min c.args.most c.args.lines.now
