use Rattle.std.proofs.Common.{rules, ◌∙◌, sym}
use Rattle.tc_proc.proofs.ReopenLemmas.{last_counts}
use Rattle.tc_proc.proofs.reopening.next_number.Goals as goal

pub returns-in-Some : goal.returns-in-Some
returns-in-Some c = last_counts c.args.name.now c.args.before.now c.in-Some.last.now c.requires (search rules) (sym c.is_same_name.ensures ∙ c.if-is_same_name.true)
