use Rattle.std.proofs.Common.{◌∙◌}
use Rattle.tc_csv.proofs.ProcedureRowLemmas.{spelled_unbroken, spelled_once}
use Rattle.tc_csv.proofs.procedure_texts.readers.read_procedure.Goals as goal

pub returns-in-Ok-clause-only : goal.returns-in-Ok-clause-only
returns-in-Ok-clause-only c = λ steps spells. (tt, c.of.ensures ∙ spelled_once c.args.text.now c.in-Ok.steps.items steps c.in-Ok.ensures spells)

pub returns-in-Err-Wrong-clause-only : goal.returns-in-Err-Wrong-clause-only
returns-in-Err-Wrong-clause-only c = λ steps spells. absurd (spelled_unbroken c.args.text.now steps c.in-Err-Wrong.fault spells (rw c.in-Err-Wrong.field-0-is at c.in-Err-Wrong.ensures))
