-- A second person's name has its form.
use Rattle.std.proofs.Common.{subst}
use Rattle.tc_types.specs.Names.{IsName}
use Rattle.tc_types.proofs.OneLine.{name_one}
use Rattle.tc_lines.proofs.print.procedure_texts.second_word.Goals as goal

pub returns-in-Some-clause-one_line : goal.returns-in-Some-clause-one_line
returns-in-Some-clause-one_line c = rw c.in-Some.is (name_one c.in-Some.second (subst IsName c.as_str.ensures.text c.as_str.ensures.name))
