-- The word is the reader's, and the lines are those of the table.
use Rattle.std.proofs.Common.{List, ◌++◌, ◌∙◌, ap}
use Rattle.std.proofs.lemmas.Result.{on_ok_weaker}
use Rattle.tc_decoded.specs.ReportLines.{telemetry_rows}
use Rattle.tc_decoded.specs.declared.rows.Row.{Row}
use Rattle.tc_decoded.proofs.AddedLemmas.{telemetry}
use Rattle.tc_decoded.proofs.telemetry.tell_telemetry.Goals as goal

pub returns : goal.returns
returns g c =
    on_ok_weaker c.tell.result
    (λ added. telemetry c.args.place.now c.report_word-word.result c.args.profile.now c.args.octets.now c.deref.result.now c.args.out.now.items
    c.tell.new.out.items c.report_word-word.ensures (c.deref.ensures.value ∙ c.in_ok-put_telemetry.ensures
    ∙ ap (λ (l : List Row). l ++ telemetry_rows c.args.profile.now c.report_word-word.result c.args.octets.now) c.new-rows.ensures.items)
    added)
    c.tell.ensures
