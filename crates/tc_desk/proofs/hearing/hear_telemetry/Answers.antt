-- There is room for the row of the report's own request.
use Rattle.tc_types.specs.Stages.{stage_of_verification}
use Rattle.tc_book.specs.Book.{request_at}
use Rattle.tc_desk.proofs.LoopLemmas.{room_to_report}
use Rattle.tc_desk.proofs.hearing.hear_telemetry.Goals as goal

pub report-requires : goal.report-requires
report-requires g c =
    rw c.stage.ensures
    (room_to_report c.args.stamp.now c.args.mirror.now.told c.in-Verification.verification (request_at c.args.records.now.book c.in-Verification.request) c.args.records.now.book c.in-Verification.request
    (stage_of_verification c.in-Verification.verification) c.args.records.now.most_rows (rw c.in-Verification.is at c.requires))
