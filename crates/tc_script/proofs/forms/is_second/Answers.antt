use Rattle.tc_script.proofs.FormLemmas.{second_spelled}
use Rattle.tc_script.proofs.forms.is_second.Goals as goal

pub returns-else-is_dash : goal.returns-else-is_dash
returns-else-is_dash c = second_spelled c.args.word.now c.is_person.result c.is_person.ensures (λ dash. let is = c.is_dash.ensures.1 dash in let none = c.if-is_dash.false in cc)
