use Rattle.tc_csv.proofs.StackTextLemmas.{spelled_unbroken}
use Rattle.tc_csv.proofs.stack_texts.readers.read_stack.Goals as goal

pub returns-in-Err-Wrong-clause-only : goal.returns-in-Err-Wrong-clause-only
returns-in-Err-Wrong-clause-only c = λ rows spells. absurd (spelled_unbroken c.args.text.now rows c.in-Err-Wrong.fault spells (rw c.in-Err-Wrong.field-0-is at c.in-Err-Wrong.ensures))
