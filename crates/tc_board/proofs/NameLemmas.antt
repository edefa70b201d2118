-- That the spacecraft keeps and reports only what it was given.
use Rattle.std.proofs.Common.{◌≡◌, ℕ, Bool, true, false, cond, Option, Some, None, List, [], ◌∷◌, ◌++◌, length, map, sym, ◌∙◌, ap, subst}
use Rattle.std.specs.Prelude.{not, filter}
use Rattle.std.specs.List.{AllByRecursion, flat_map, sum_by}
use Rattle.std.proofs.lemmas.List.Concat.{length-flat_map}
use Rattle.std.proofs.lemmas.List.Sorted.{sum_by-IsPermutation}
use Rattle.tc_types.specs.declared.link.activities.Activity.{Activity}
use Rattle.tc_types.specs.declared.link.reports.Telemetry.{Telemetry}
use Rattle.tc_types.specs.declared.link.reports.Verification.{Verification}
use Rattle.tc_types.specs.declared.link.reports.Verification.TheVariants as report
use Rattle.tc_types.specs.declared.link.telecommands.ScheduleCommand.{ScheduleCommand}
use Rattle.tc_types.specs.declared.link.telecommands.ScheduleCommand.TheVariants.{Enable, Disable, Reset, Insert, Delete, Shift, ShiftAll, Summarize}
use Rattle.tc_types.specs.declared.link.telecommands.Task.{Task}
use Rattle.tc_types.specs.declared.link.telecommands.Task.TheVariants.{Plain, Schedule}
use Rattle.tc_types.specs.declared.link.telecommands.Telecommand.{Telecommand}
use Rattle.tc_types.proofs.RideLemmas.{each_appended}
use Rattle.tc_board.specs.declared.outcomes.Reporter.{Reporter}
use Rattle.tc_board.specs.declared.schedules.ScheduleFault.{ScheduleFault}
use Rattle.tc_board.specs.Schedule.{ScheduleState, failure_of, after_command, is_due}
use Rattle.tc_board.specs.Reports.{tells, asked, is_refused, first_reports, later_reports}
use Rattle.tc_board.specs.Board.{BoardState, reporter_of, reporter_at, outcome_of, accepted, shown, command_reports, task_reports, after_task, work_reports, worked, released, ClockReports, clocked}
use Rattle.tc_board.specs.Follows.{command_in, inserted, Event, Accept, Work, Clock, Makes}
use Rattle.tc_board.specs.Names.{IsNamed, Knows, AreNamed, IsGivenOf}
use Rattle.tc_board.proofs.SoundLemmas.{each_weaker, each_joined, each_filtered, command_each}
use Rattle.tc_board.proofs.DueLemmas.{due_each}

-- ---- what holds of each of a list

-- so many lists joined
each_flat : {X : Type 0} {Y : Type 0} (P : Y → Type 0) (f : X → List Y) (xs : List X) → AllByRecursion (λ x. AllByRecursion P (f x)) xs → AllByRecursion P (flat_map f xs)
each_flat P f [] all = tt
each_flat P f (x ∷ xs) all = each_joined P (f x) (flat_map f xs) all.0 (each_flat P f xs all.1)

-- ---- what is reported

-- reports of verification on one request name it
told_named : (K : ℕ → Type 0) (r : Reporter) (vs : List Verification) → K r.request → AllByRecursion (IsNamed K) (map (tells r) vs)
told_named K r [] known = tt
told_named K r (v ∷ vs) known = (known, told_named K r vs known)

-- what a command shows names no request
shown_named : (K : ℕ → Type 0) (command : ScheduleCommand) (s : ScheduleState) → AllByRecursion (IsNamed K) (shown command s)
shown_named K Enable s = tt
shown_named K Disable s = tt
shown_named K Reset s = tt
shown_named K (Insert activities) s = tt
shown_named K (Delete target) s = tt
shown_named K (Shift target offset) s = tt
shown_named K (ShiftAll offset) s = tt
shown_named K Summarize s = (tt, tt)

-- the reports of a command, failing or not, name its request
command_reports_named : (K : ℕ → Type 0) (r : Reporter) (command : ScheduleCommand) (s : ScheduleState) → K r.request → (failure : Option ScheduleFault) → AllByRecursion (IsNamed K) (command_reports r failure command s)
command_reports_named K r command s known (Some fault) = (known, tt)
command_reports_named K r command s known None =
    each_appended (IsNamed K) (start ++ shown command s) (tells r report.Completed) (each_joined (IsNamed K) start (shown command s) (told_named K r (asked r.ack.start (report.Started ∷ [])) known) (shown_named K command s)) known
  where
    start : List Telemetry
    start = map (tells r) (asked r.ack.start (report.Started ∷ []))

-- the reports of carrying a task out name its request
task_reports_named : (K : ℕ → Type 0) (now : ℕ) (r : Reporter) (task : Task) (s : ScheduleState) → K r.request → AllByRecursion (IsNamed K) (task_reports now r task s)
task_reports_named K now r (Plain outcome) s known = told_named K r (later_reports r.ack outcome) known
task_reports_named K now r (Schedule command) s known = command_reports_named K r command s known (failure_of now command s)

-- the reports of work on the buffer name its oldest request
work_named : (K : ℕ → Type 0) (b : BoardState) (buffer : List Telecommand) → AllByRecursion (Knows K) buffer → AllByRecursion (IsNamed K) (work_reports b buffer)
work_named K b [] known = tt
work_named K b (oldest ∷ others) known = task_reports_named K b.time (reporter_of oldest) oldest.task b.schedule known.0.request

-- the reports of what falls due name its requests
clock_named : (K : ℕ → Type 0) (now : ℕ) (s : ScheduleState) (made : List Telemetry) → AllByRecursion (λ (a : Activity). K a.request) s.activities → ClockReports now s made → AllByRecursion (IsNamed K) made
clock_named K now s made known makes =
    subst (AllByRecursion (IsNamed K)) (sym makes.are)
    (each_flat (IsNamed K) (released s.enabled) makes.due
    (each_weaker (λ (a : Activity). K a.request) (λ a. AllByRecursion (IsNamed K) (released s.enabled a)) (λ a is. told_named K (reporter_at a) _ is) makes.due
    (due_each (λ (a : Activity). K a.request) now s makes.due known makes.falls)))

-- ---- what is kept

-- a task leaves activities of which K holds
task_kept : (K : ℕ → Type 0) (now : ℕ) (task : Task) (s : ScheduleState) → AllByRecursion (λ (a : Activity). K a.request) (inserted (command_in task)) → AllByRecursion (λ (a : Activity). K a.request) s.activities
    → AllByRecursion (λ (a : Activity). K a.request) (after_task now task s).activities
task_kept K now (Plain outcome) s new all = all
task_kept K now (Schedule command) s new all = by_failure (failure_of now command s)
  where
    by_failure : (failure : Option ScheduleFault) → AllByRecursion (λ (a : Activity). K a.request) (after_command failure command s).activities
    by_failure (Some fault) = all
    by_failure None = command_each (λ (a : Activity). K a.request) (λ offset a is. is) command s new all

-- once a request came
accepted_kept : (K : ℕ → Type 0) (b : BoardState) (t : Telecommand) → AreNamed K b → Knows K t → AreNamed K (accepted t b)
accepted_kept K b t named known = record { buffer = by_test (is_refused (outcome_of t.task)); activities = named.activities }
  where
    by_test : (refused : Bool) → AllByRecursion (Knows K) (cond refused b.buffer (b.buffer ++ t ∷ []))
    by_test true = named.buffer
    by_test false = each_appended (Knows K) b.buffer t named.buffer known

-- once the oldest request was carried out
worked_kept : (K : ℕ → Type 0) (b : BoardState) (buffer : List Telecommand) → AreNamed K b → AllByRecursion (Knows K) buffer → AreNamed K (worked b buffer)
worked_kept K b [] named known = named
worked_kept K b (oldest ∷ others) named known = record { buffer = known.1; activities = task_kept K b.time oldest.task b.schedule known.0.inserts named.activities }

-- once the time went on
clocked_kept : (K : ℕ → Type 0) (time : ℕ) (b : BoardState) → AreNamed K b → AreNamed K (clocked time b)
clocked_kept K time b named = record { buffer = named.buffer; activities = each_filtered (λ (a : Activity). K a.request) (λ a. not (is_due time a)) b.schedule.activities named.activities }

-- ---- step by step

-- what the spacecraft holds and reports is of requests that it was given
pub names_kept : (K : ℕ → Type 0) (old new : BoardState) (event : Event) (made : List Telemetry) → AreNamed K old → IsGivenOf K event → Makes old event made new → AreNamed K new × AllByRecursion (IsNamed K) made
names_kept K old new (Accept t) made named known makes = (
  subst (AreNamed K) (sym makes.1) (accepted_kept K old t named known),
  subst (AllByRecursion (IsNamed K)) (sym makes.0) (told_named K (reporter_of t) (first_reports t.ack (outcome_of t.task)) known.request),
)
names_kept K old new Work made named known makes = (
  subst (AreNamed K) (sym makes.1) (worked_kept K old old.buffer named named.buffer),
  subst (AllByRecursion (IsNamed K)) (sym makes.0) (work_named K old old.buffer named.buffer),
)
names_kept K old new (Clock time) made named known makes = (
  subst (AreNamed K) (sym makes.1) (clocked_kept K time old named),
  clock_named K time old.schedule made named.activities makes.0,
)

-- of a request of which K holds, what K implies holds
knows_weaker : (K L : ℕ → Type 0) → ((n : ℕ) → K n → L n) → (t : Telecommand) → Knows K t → Knows L t
knows_weaker K L may t known = record {
  request = may t.request known.request;
  inserts = each_weaker (λ (a : Activity). K a.request) (λ (a : Activity). L a.request) (λ a. may a.request) (inserted (command_in t.task)) known.inserts;
}

-- what the spacecraft was given may grow
pub names_weaker : (K L : ℕ → Type 0) (b : BoardState) → ((n : ℕ) → K n → L n) → AreNamed K b → AreNamed L b
names_weaker K L b may named = record {
  buffer = each_weaker (Knows K) (Knows L) (knows_weaker K L may) b.buffer named.buffer;
  activities = each_weaker (λ (a : Activity). K a.request) (λ (a : Activity). L a.request) (λ a. may a.request) b.schedule.activities named.activities;
}

-- ---- how many reports

-- as many as all that falls due makes
due_count : (time : ℕ) (s : ScheduleState) (made : List Telemetry) → ClockReports time s made → length made ≡ sum_by (λ a. length (released s.enabled a)) (filter (is_due time) s.activities)
due_count time s made makes =
    ap length makes.are
    ∙ length-flat_map (released s.enabled) makes.due
    ∙ sum_by-IsPermutation (λ a. length (released s.enabled a)) (filter (is_due time) s.activities) makes.due makes.falls.all

-- the reports of what falls due are as many, in whatever order they are made
pub clock_count : (time : ℕ) (s : ScheduleState) (made others : List Telemetry) → ClockReports time s made → ClockReports time s others → length made ≡ length others
clock_count time s made others makes other = due_count time s made makes ∙ sym (due_count time s others other)
