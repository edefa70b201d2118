use Rattle.tc_packets.proofs.ReportLemmas.{read_verification}
use Rattle.tc_packets.proofs.report_readers.report_in.Goals as goal

pub returns : goal.returns
returns c =
    read_verification c.args.profile.now c.args.origin c.args.field.now c.source_data_in-octets.result.now c.verification_in.result
    c.requires.ours.known c.if-field-eq-SCHEDULE.false
    c.source_data_in-octets.ensures (c.verification_in.ensures c.args.profile.now)
