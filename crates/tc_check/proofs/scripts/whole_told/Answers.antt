use Rattle.std.proofs.Common.{None}
use Rattle.std.proofs.lemmas.Result.{IfOk-weaker}
use Rattle.std.specs.String.{string_bytes}
use Rattle.tc_check.specs.Scripts.{SaysOfLine}
use Rattle.tc_check.proofs.ScriptLemmas.{seen_file, seen_nothing, seen_wrong}
use Rattle.tc_check.proofs.scripts.whole_told.Goals as goal

pub returns-in-Some : goal.returns-in-Some
returns-in-Some g c = seen_wrong c.args.number c.args.line.now (string_bytes c.in-Some.wrong) (g.T.Texts.seen c.args.texts.now) (rw c.in-Some.is at c.in_ok-wrong.ensures)

pub returns-in-Ok : goal.returns-in-Ok
returns-in-Ok g c =
    let says : SaysOfLine c.args.number c.args.line.now None = rw c.in_default.is at c.in_ok-wrong.ensures in
    IfOk-weaker c.file_told.result _ _ (λ told file. seen_file _ _ _ _ c.read_load.result c.in-Ok.load _ says c.in-Ok.is c.in-Ok.ensures.found c.read_load.ensures.too_long file) c.file_told.ensures

pub returns-in-Err : goal.returns-in-Err
returns-in-Err g c =
    let says : SaysOfLine c.args.number c.args.line.now None = rw c.in_default.is at c.in_ok-wrong.ensures in
    seen_nothing c.args.number c.args.line.now (g.T.Texts.seen c.args.texts.now) c.read_load.result c.in-Err.field-0 says c.in-Err.is c.read_load.ensures.only
