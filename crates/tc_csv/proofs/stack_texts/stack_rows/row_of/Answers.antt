use Rattle.std.proofs.Common.{arith, ◌≡◌, Err}
use Rattle.csv.specs.Records.{fields_of}
use Rattle.tc_csv.proofs.StackRowLemmas.{conduct_broken}
use Rattle.tc_csv.proofs.stack_texts.stack_rows.row_of.Goals as goal

pub returns-in_err-conduct-clause-broken : goal.returns-in_err-conduct-clause-broken
returns-in_err-conduct-clause-broken c =
    let gone : c.from_residual-in_err-conduct.result ≡ Err c.in_err-conduct.field-0.0 = grind arith in
    rw gone
    (conduct_broken c.args.line (fields_of c.args.fields.now) c.in_ok-apid.apid c.in_ok-command.command c.in_err-conduct.field-0.0 c.in_ok-apid.ensures.found c.in_ok-command.ensures.found.0 c.in_err-conduct.ensures.broken)
