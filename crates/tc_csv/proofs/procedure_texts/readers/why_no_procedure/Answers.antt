use Rattle.std.proofs.Common.{Some, ap}
use Rattle.tc_csv.proofs.ProcedureRowLemmas.{spelled_unbroken, fault_once}
use Rattle.tc_csv.proofs.procedure_texts.readers.why_no_procedure.Goals.{in-Ok, in-Err-Wrong, in-Err-Memory}
use Rattle.tc_csv.proofs.procedure_texts.readers.why_no_procedure.Goals as goal

pub returns-clause-only : goal.returns-clause-only
returns-clause-only c = λ fault is. elim c.match-read_steps.branch [
  | in-Ok w ↦ absurd (spelled_unbroken c.args.text.now w.in-Ok.field-0.items fault w.in-Ok.ensures is)
  | in-Err-Wrong w ↦ rw w.result-is (ap Some (fault_once c.args.text.now w.in-Err-Wrong.fault fault (rw w.in-Err-Wrong.field-0-is at w.in-Err-Wrong.ensures) is))
  | in-Err-Memory w ↦ rw w.result-is tt
]
