use Rattle.std.proofs.Common.{Some, ap}
use Rattle.tc_csv.proofs.StackTextLemmas.{spelled_unbroken, fault_once}
use Rattle.tc_csv.proofs.stack_texts.readers.why_no_stack.Goals.{in-Ok, in-Err-Wrong, in-Err-Memory}
use Rattle.tc_csv.proofs.stack_texts.readers.why_no_stack.Goals as goal

pub returns-clause-only : goal.returns-clause-only
returns-clause-only c = λ fault is. elim c.match-read_rows.branch [
  | in-Ok w ↦ absurd (spelled_unbroken c.args.text.now w.in-Ok.field-0.items fault w.in-Ok.ensures.0 is)
  | in-Err-Wrong w ↦ rw w.result-is (ap Some (fault_once c.args.text.now w.in-Err-Wrong.fault fault (rw w.in-Err-Wrong.field-0-is at w.in-Err-Wrong.ensures) is))
  | in-Err-Memory w ↦ rw w.result-is tt
]
