use Rattle.serde_json.specs.View.{view}
use Rattle.tc_api.specs.Serving.{outcome_of}
use Rattle.tc_api.proofs.ServingLemmas.{posts_acts, posts_procedure, posts_stack}
use Rattle.tc_api.proofs.serving.serve_value.Goals as goal

pub returns-in-Acts : goal.returns-in-Acts
returns-in-Acts g c =
    let made = c.serve_act.ensures in record { reply = made.reply; makes = posts_acts g.S.Store c.args.room.now c.serve_act.new.room _ (view c.args.value.now) (outcome_of made.reply c.serve_act.result) c.in-Acts.is made.makes; text = made.text; opened = made.opened }

pub returns-in-Stacks : goal.returns-in-Stacks
returns-in-Stacks g c =
    let made = c.serve_load.ensures in record { reply = made.reply; makes = posts_stack g.S.Store c.args.room.now c.serve_load.new.room _ (view c.args.value.now) (outcome_of made.reply c.serve_load.result) c.in-Stacks.is made.makes; text = made.text; opened = made.opened }

pub returns-in-Procedures : goal.returns-in-Procedures
returns-in-Procedures g c =
    let made = c.serve_load-in-Procedures.ensures in record { reply = made.reply; makes = posts_procedure g.S.Store c.args.room.now c.serve_load-in-Procedures.new.room _ (view c.args.value.now) (outcome_of made.reply c.serve_load-in-Procedures.result) c.in-Procedures.is made.makes; text = made.text; opened = made.opened }
