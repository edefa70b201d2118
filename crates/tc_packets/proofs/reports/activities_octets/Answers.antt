use Rattle.tc_packets.proofs.ReportLemmas.{fine_size, whole_size}
use Rattle.tc_packets.proofs.reports.activities_octets.Goals as goal

pub returns-then-profile-clause-octets : goal.returns-then-profile-clause-octets
returns-then-profile-clause-octets c = fine_size c.args.profile.now c.args.activities.now c.if-profile.true

pub returns-else-profile-clause-octets : goal.returns-else-profile-clause-octets
returns-else-profile-clause-octets c = whole_size c.args.profile.now c.args.activities.now c.if-profile.false
