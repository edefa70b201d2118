-- The definitions carried out on worked cases.
use Rattle.std.proofs.Common.{◌≡◌, ℕ, zero, suc, negsuc, true, false, Some, None, List, [], ◌∷◌, refl}
use Rattle.tc_types.specs.declared.link.activities.Activity.{Activity}
use Rattle.tc_types.specs.declared.link.reports.Verification.TheVariants as report
use Rattle.tc_types.specs.declared.link.reports.Telemetry.TheVariants.{Verification}
use Rattle.tc_types.specs.declared.link.reports.Report.TheVariants.{Telemetry}
use Rattle.tc_types.specs.declared.requests.Ack.{Ack}
use Rattle.tc_types.specs.declared.requests.Identity.{Identity}
use Rattle.tc_types.specs.declared.requests.Outcome.TheVariants.{Completes, Halts}
use Rattle.tc_types.specs.declared.link.telecommands.ScheduleCommand.TheVariants.{Insert, Delete, ShiftAll}
use Rattle.tc_board.specs.declared.schedules.ScheduleFault.TheVariants.{Time, NotThere, Full, IdentityInUse}
use Rattle.tc_board.specs.Schedule.{ScheduleState, empty_schedule, failure_of, commanded, after_command, after_due, fault_code}
use Rattle.tc_board.specs.Reports.{reports_of}
use Rattle.tc_board.specs.Board.{released}
use Rattle.tc_board.specs.Mirror.{mirror_of, mirrored, mirror_after}

-- ---- reports of a request

-- start and progress are asked for
abbrev start_and_progress : Ack
start_and_progress = record { acceptance = false; start = true; progress = true; completion = false }

-- halted at step 2 with code 40: the failures are reported though completion was not asked for
pub halted-reported : reports_of start_and_progress (Halts 2 40) ≡
    report.Started
    ∷ report.StepDone 1
    ∷ report.StepFailed 2 40
    ∷ report.CompletionFailed 40
    ∷ []
halted-reported = refl

-- ---- two activities at 1000, while the schedule is disabled

abbrev name : ℕ → Identity
name count = record { apid = 5; count = count }

-- the request that is activity n, at this time
abbrev at : ℕ → ℕ → Activity
at n time = record {
  request = n;
  identity = name n;
  ack = record { acceptance = true; start = false; progress = false; completion = true };
  outcome = Completes;
  time = time;
}

abbrev two : ScheduleState
two = record { enabled = false; activities = at 1 1100 ∷ at 2 1200 ∷ [] }

-- all cannot be 50 s earlier: 1050 is before 1060
pub shift_all-refused : failure_of 1000 (ShiftAll (negsuc 49)) two ≡ Some Time
shift_all-refused = refl

pub shift_all-at_the_margin : failure_of 1000 (ShiftAll (negsuc 39)) two ≡ None
shift_all-at_the_margin = refl

pub code_of_a_time : fault_code Time ≡ 2
code_of_a_time = refl

pub insert-too_early : failure_of 1000 (Insert (at 3 1059 ∷ [])) two ≡ Some Time
insert-too_early = refl

pub insert-at_the_margin : failure_of 1000 (Insert (at 3 1060 ∷ [])) two ≡ None
insert-at_the_margin = refl

pub insert-again : failure_of 1000 (Insert (at 2 1300 ∷ [])) two ≡ Some IdentityInUse
insert-again = refl

pub insert-list : failure_of 1000 (Insert (at 4 1300 ∷ at 3 1060 ∷ [])) two ≡ None
insert-list = refl

-- they go in behind the others, in the list's order
pub insert-list-done : commanded (Insert (at 4 1300 ∷ at 3 1060 ∷ [])) two ≡ record { enabled = false; activities = at 1 1100 ∷ at 2 1200 ∷ at 4 1300 ∷ at 3 1060 ∷ [] }
insert-list-done = refl

-- the first is there already, and the second is too early: all times are tested before any identity
pub insert-times_first : failure_of 1000 (Insert (at 2 1300 ∷ at 3 1059 ∷ [])) two ≡ Some Time
insert-times_first = refl

pub insert-twice : failure_of 1000 (Insert (at 3 1300 ∷ at 4 1300 ∷ at 3 1400 ∷ [])) two ≡ Some IdentityInUse
insert-twice = refl

-- ---- 62 activities, and three more

abbrev so_many : ℕ → List Activity
so_many zero = []
so_many (suc n) = at (suc n) 1100 ∷ so_many n

abbrev nearly_full : ScheduleState
nearly_full = record { enabled = false; activities = so_many 62 }

pub insert-two_fit : failure_of 1000 (Insert (at 63 1100 ∷ at 64 1100 ∷ [])) nearly_full ≡ None
insert-two_fit = refl

pub insert-three_are_too_many : failure_of 1000 (Insert (at 63 1100 ∷ at 64 1100 ∷ at 65 1100 ∷ [])) nearly_full ≡ Some Full
insert-three_are_too_many = refl

-- none of them went in
pub insert-none_went_in : after_command (failure_of 1000 (Insert (at 63 1100 ∷ at 64 1100 ∷ at 65 1100 ∷ [])) nearly_full) (Insert (at 63 1100 ∷ at 64 1100 ∷ at 65 1100 ∷ [])) nearly_full ≡ nearly_full
insert-none_went_in = refl

-- ---- the others

pub delete-nothing : failure_of 1000 (Delete 3) two ≡ Some NotThere
delete-nothing = refl

-- at 1100 the first leaves, and reports that the schedule is disabled
pub due-leaves : after_due 1100 two ≡ record { enabled = false; activities = at 2 1200 ∷ [] }
due-leaves = refl

pub due-reported : released false (at 1 1100) ≡ Verification (report.StartFailed 5) 1 (name 1) ∷ []
due-reported = refl

-- ---- the mirror

-- request 9 inserted activity 1, which is then released
pub mirror-follows : mirrored
    ((Telemetry (Verification report.Accepted 9 (name 9)), Some (Insert (at 1 1100 ∷ [])))
    ∷ (Telemetry (Verification report.Completed 9 (name 9)), Some (Insert (at 1 1100 ∷ [])))
    ∷ []) ≡ mirror_of (record { enabled = false; activities = at 1 1100 ∷ [] })
mirror-follows = refl

-- request 9 inserted both
pub mirror-list : mirror_after (mirror_of empty_schedule) (Telemetry (Verification report.Completed 9 (name 9)), Some (Insert (at 1 1100 ∷ at 2 1200 ∷ []))) ≡ mirror_of two
mirror-list = refl

pub mirror-released : mirror_after (mirror_of two) (Telemetry (Verification report.Accepted 1 (name 1)), None) ≡ mirror_of (record { enabled = false; activities = at 2 1200 ∷ [] })
mirror-released = refl

-- a delete that failed takes nothing out
pub mirror-delete_failed : mirror_after (mirror_of two) (Telemetry (Verification (report.StartFailed 3) 9 (name 9)), Some (Delete 1)) ≡ mirror_of two
mirror-delete_failed = refl
