use Rattle.std.proofs.Common.{inl, refl}
use Rattle.csv.specs.Records.{fields_of}
use Rattle.tc_csv.proofs.StackTextLemmas.{only_keeps}
use Rattle.tc_csv.proofs.stack_texts.judging.add_broken.Goals as goal

pub returns-in-Ok : goal.returns-in-Ok
returns-in-Ok c = inl (only_keeps c.args.row (fields_of c.args.fields.now) c.in-Ok.field-0 c.in-Ok.ensures.found, refl)
