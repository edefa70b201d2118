use Rattle.serde_json.specs.View.{view}
use Rattle.tc_posts.proofs.ToldLemmas.{nothing_said}
use Rattle.tc_posts.proofs.told.told_in.Goals as goal

pub returns-clause-untold : goal.returns-clause-untold
returns-clause-untold c = nothing_said c.told_by.result c.args.body.now (view c.in_ok-value.value) c.in_ok-value.ensures.ok c.told_by.ensures.untold
