use Rattle.std.proofs.Common.{refl}
use Rattle.tc_posts.proofs.ToldLemmas.{if_none, no_body, no_text}
use Rattle.tc_posts.proofs.told.body_of.Goals as goal

pub returns-in_err-end-clause-none : goal.returns-in_err-end-clause-none
returns-in_err-end-clause-none c = if_none c.from_residual.result _ (λ body is utf8. no_body c.args.response.now body c.find.result c.find.ensures c.in_err-end.was is)

pub returns-clause-none : goal.returns-clause-none
returns-clause-none c = no_text c.args.response.now c.in_ok-end.end _ c.from_utf8.result c.ok.result _ refl c.in_ok-end.ensures c.from_utf8.ensures.cases c.ok.ensures.value
