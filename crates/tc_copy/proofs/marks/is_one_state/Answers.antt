use Rattle.tc_copy.proofs.CopyLemmas.{copies}
use Rattle.tc_copy.proofs.marks.is_one_state.Goals as goal

pub returns-clause-copied : goal.returns-clause-copied
returns-clause-copied c = λ one. copies c.args.before.now c.args.after.now (c.are_of_one.ensures.0 one)
