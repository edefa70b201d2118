-- What holds of telemetry reports.
use Rattle.std.specs.Prelude.{◌≡◌, ℕ, ◌^◌, ◌<◌, Result, Ok, List, ⊤}
use Rattle.tc_octets.specs.declared.profiles.Profile.{Profile}
use Rattle.tc_packets.specs.Times.{HasTime}
use Rattle.tc_packets.specs.declared.told.Told.{Told}
use Rattle.tc_packets.specs.declared.told.HeardReport.{HeardReport}
use Rattle.tc_packets.specs.declared.told.Heard.{Heard}
use Rattle.tc_packets.specs.declared.told.Heard.TheVariants as heard
use Rattle.tc_packets.specs.declared.told.ReportFault.{ReportFault}
use Rattle.tc_packets.specs.Reports.{IsReportable, report_of}
use Rattle.tc_packets.specs.ReportReaders.{ReadsReport}

-- a report with its sequence count and the time on board
pub record Sent : Type 0 where
  pub count : ℕ
  pub time : ℕ
  pub contents : Told

pub record CanBeSent (profile : Profile) (sent : Sent) : Type 0 where
  pub counted : sent.count < 2 ^ 14
  pub timed : HasTime profile.epoch sent.time
  pub reportable : IsReportable profile sent.contents

abbrev pub octets_of : Profile → Sent → List ℕ
octets_of profile sent = report_of profile sent.count sent.time sent.contents

-- a report as it comes back: the APID and the count of its packet, what it tells, and nothing passed over
abbrev pub heard_of : Profile → Sent → HeardReport
heard_of profile sent = record { origin = record { apid = profile.apid; count = sent.count }; told = sent.contents; passed = 0 }

-- What octets are read as.
pub record ReportReadsBack (profile : Profile) (octets : List ℕ) (read : Result Heard ReportFault) : Type 0 where
  -- no other answer is right
  pub only : (other : Result Heard ReportFault) → ReadsReport profile octets other → other ≡ read
  -- what is written for a report is read as that report
  pub back : (sent : Sent) → CanBeSent profile sent → octets ≡ octets_of profile sent → read ≡ Ok (heard.Report (heard_of profile sent))
  -- different reports have different octets
  pub differ : (a b : Sent) → CanBeSent profile a → CanBeSent profile b → octets ≡ octets_of profile a → octets ≡ octets_of profile b → a ≡ b

-- It is no report, and no packet for another.
abbrev pub IsNoReport : Result Heard ReportFault → Type 0
IsNoReport (Ok (heard.Report report)) = ⊥
IsNoReport (Ok (heard.Other service subtype)) = ⊥
IsNoReport other = ⊤
