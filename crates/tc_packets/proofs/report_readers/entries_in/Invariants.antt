-- So many entries were read, and these octets are left.
use Rattle.tc_packets.specs.ReportReaders.{Lists}
use Rattle.tc_packets.proofs.report_readers.entries_in.Given as goal

abbrev pub invariant-loop : goal.invariant-loop
invariant-loop l = Lists l.profile l.counter l.octets l.left l.listing.activities l.listing.passed
