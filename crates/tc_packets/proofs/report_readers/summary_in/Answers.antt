use Rattle.std.proofs.Common.{◌≡◌, None, arith, rules}
use Rattle.tc_packets.proofs.ReportLemmas.{no_status}
use Rattle.tc_packets.proofs.report_readers.summary_in.Goals as goal

pub returns-in_err-enabled : goal.returns-in_err-enabled
returns-in_err-enabled c =
    let gone : c.from_residual-in_err-enabled.result ≡ None = grind arith in
    rw gone
    (no_status c.args.profile.now c.args.origin c.args.octets.now c.in_ok-number.number.now c.in_ok-number.octets.now c.in_ok-rest.rest.now
    c.entries_in.new.listing.activities c.entries_in.new.listing.passed (search rules) c.in_ok-rest.ensures c.in_err-enabled.ensures)
