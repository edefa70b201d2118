-- Which place a report asks for (the places are this desk's own).
use Rattle.std.specs.Prelude.{Option, Some, None}
use Rattle.tc_types.specs.declared.history.places.Place.{Place}
use Rattle.tc_types.specs.declared.history.places.Place.TheVariants as place
use Rattle.tc_types.specs.declared.link.reports.Verification.{Verification}
use Rattle.tc_types.specs.declared.link.reports.Verification.TheVariants as verification
use Rattle.tc_types.specs.declared.link.reports.Telemetry.{Telemetry}
use Rattle.tc_types.specs.declared.link.reports.Telemetry.TheVariants as telemetry
use Rattle.tc_types.specs.declared.link.reports.Report.{Report}
use Rattle.tc_types.specs.declared.link.reports.Report.TheVariants as report

-- the place that a report of request verification asks for: any failure asks for Failed
abbrev pub stage_of_verification : Verification → Place
stage_of_verification verification.Accepted = place.Accepted  -- TM[1,1]
stage_of_verification (verification.AcceptanceFailed code) = place.Failed  -- TM[1,2]
stage_of_verification verification.Started = place.Started  -- TM[1,3]
stage_of_verification (verification.StartFailed code) = place.Failed  -- TM[1,4]
stage_of_verification (verification.StepDone step) = place.Started  -- TM[1,5]
stage_of_verification (verification.StepFailed step code) = place.Failed  -- TM[1,6]
stage_of_verification verification.Completed = place.Completed  -- TM[1,7]
stage_of_verification (verification.CompletionFailed code) = place.Failed  -- TM[1,8]

abbrev pub stage_of_telemetry : Telemetry → Option Place
stage_of_telemetry (telemetry.Verification verification request identity) = Some (stage_of_verification verification)
stage_of_telemetry (telemetry.Summary summary) = None

-- a control word and a summary ask for no place
abbrev pub stage_of : Report → Option Place
stage_of (report.Word word) = None
stage_of (report.Telemetry telemetry) = stage_of_telemetry telemetry
