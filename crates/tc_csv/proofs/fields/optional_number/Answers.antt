use Rattle.tc_csv.proofs.RowLemmas.{no_number}
use Rattle.tc_csv.proofs.fields.optional_number.Goals as goal

pub returns-then-is_empty : goal.returns-then-is_empty
returns-then-is_empty c = no_number c.args.field.now (c.if-is_empty.ensures)
