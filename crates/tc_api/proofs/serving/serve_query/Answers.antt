use Rattle.tc_api.proofs.serving.serve_query.Goals as goal

pub returns : goal.returns
returns g c =
    let told = c.answer_query.ensures.answered.replied in
    let made = c.answer_served.ensures told.reply told.says in
    record { reply = told.reply; makes = (told.made, made.0, c.answer_query.ensures.leaves); text = made.1; opened = told.opened }
