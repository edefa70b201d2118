use Rattle.std.proofs.Common.{◌∷◌, ap, ◌∙◌}
use Rattle.std.proofs.lemmas.Result.{IfOk-weaker}
use Rattle.tc_posts.proofs.PostLemmas.{posts_parts}
use Rattle.tc_posts.proofs.posting.post_of.Goals as goal

pub returns-in-Some-rest : goal.returns-in-Some-rest
returns-in-Some-rest c =
    let first = rw c.in-Some.is at c.cut.ensures in
    let second = rw c.in-Some-rest.is at c.cut-2.ensures in
    IfOk-weaker c.post_of_parts.result _ _
    (λ post h. posts_parts c.args.line.now c.cut.result.0.now c.cut-2.result.0.now c.in-Some-rest.act.now post (first ∙ ap (λ others. c.cut.result.0.now ∷ others) second) h.0 h.1 h.2)
    c.post_of_parts.ensures
