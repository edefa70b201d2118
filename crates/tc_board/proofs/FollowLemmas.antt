-- What the reports of a request, and of a command of the schedule, make of the mirror.
use Rattle.std.proofs.Common.{◌≡◌, ℕ, ◌==◌, Bool, true, false, cond, Option, Some, None, List, [], ◌∷◌, ◌++◌, map, refl, sym, ◌∙◌, ap, subst, arith}
use Rattle.std.specs.Prelude.{not, filter, fold}
use Rattle.std.specs.List.{list_any, AllByRecursion}
use Rattle.std.proofs.lemmas.List.{append-nil, append_assoc, map-append}
use Rattle.std.proofs.lemmas.List.Sums.{fold-append}
use Rattle.std.proofs.lemmas.Bool.Decides.{nat_tests}
use Rattle.tc_types.specs.declared.link.activities.Activity.{Activity}
use Rattle.tc_types.specs.declared.link.activities.ListedActivity.{ListedActivity}
use Rattle.tc_types.specs.declared.requests.Identity.{Identity}
use Rattle.tc_types.specs.declared.requests.Outcome.{Outcome}
use Rattle.tc_types.specs.declared.requests.Outcome.TheVariants.{Completes, CompletesInSteps, Refuses, StartFails, Halts, Fails}
use Rattle.tc_types.specs.declared.link.reports.Telemetry.{Telemetry}
use Rattle.tc_types.specs.declared.link.reports.Verification.{Verification}
use Rattle.tc_types.specs.declared.link.reports.Verification.TheVariants as report
use Rattle.tc_types.specs.declared.link.telecommands.ScheduleCommand.{ScheduleCommand}
use Rattle.tc_types.specs.declared.link.telecommands.ScheduleCommand.TheVariants.{Enable, Disable, Reset, Insert, Delete, Shift, ShiftAll, Summarize}
use Rattle.tc_types.specs.declared.link.telecommands.Task.{Task}
use Rattle.tc_types.specs.declared.link.telecommands.Task.TheVariants.{Plain, Schedule}
use Rattle.tc_types.specs.declared.link.telecommands.Telecommand.{Telecommand}
use Rattle.tc_types.proofs.RideLemmas.{each_appended}
use Rattle.tc_board.specs.declared.outcomes.Reporter.{Reporter}
use Rattle.tc_board.specs.declared.schedules.ScheduleFault.{ScheduleFault}
use Rattle.tc_board.specs.Schedule.{ScheduleState, is_of, is_same_identity, has_identity, has_one_twice, meets_one, IsSchedule, listed, shifted, failure_of, commanded, after_command}
use Rattle.tc_board.specs.Reports.{tells, asked, first_reports, later_reports}
use Rattle.tc_board.specs.Board.{BoardState, reporter_of, outcome_of, accept_reports, accepted, shown, command_reports, task_reports, after_task, work_reports, worked}
use Rattle.tc_board.specs.Mirror.{MirrorState, mirror_of, mirror_after, is_listed_of, without, with_activity, moved, told, told_by, verified}
use Rattle.tc_board.specs.Follows.{Roll, IsActivityOf, IsRequestOf, command_in, inserted, with_command, read_all}
use Rattle.tc_board.proofs.SoundLemmas.{each_weaker, each_both, each_fails, first_goes_in, insert_passes}
use Rattle.tc_board.proofs.SummaryLemmas.{summary-told}

-- ---- what is read in two parts

-- reports are read one part after the other
pub read-append : (roll : Roll) (m : MirrorState) (xs ys : List Telemetry) → read_all roll m (xs ++ ys) ≡ read_all roll (read_all roll m xs) ys
read-append roll m xs ys = ap (fold mirror_after m) (map-append (with_command roll) xs ys) ∙ fold-append mirror_after m (map (with_command roll) xs) (map (with_command roll) ys)

-- ---- a request that no activity is

-- no activity has this request
abbrev pub IsAbsent : ℕ → List Activity → Type 0
IsAbsent n activities = AllByRecursion (λ a. is_of n a ≡ false) activities

-- what is not there is not taken out
absent_stays : (n : ℕ) (xs : List Activity) → IsAbsent n xs → filter (λ a. not (is_listed_of n a)) (map listed xs) ≡ map listed xs
absent_stays n [] absent = refl
absent_stays n (x ∷ xs) absent = rw absent.0 (ap (λ l. listed x ∷ l) (absent_stays n xs absent.1))

-- the same of the mirror
pub without-absent : (n : ℕ) (s : ScheduleState) → IsAbsent n s.activities → without n (mirror_of s) ≡ mirror_of s
without-absent n s absent = ap (λ l. (let m : MirrorState = record { enabled = s.enabled; activities = l } in m)) (absent_stays n s.activities absent)

-- an activity rides, so a request that flies is none
rides_apart : (roll : Roll) (n : ℕ) → roll.rides n ≡ false → (a : Activity) → IsActivityOf roll a → is_of n a ≡ false
rides_apart roll n flies a is = by_test (a.request == n) refl
  where
    by_test : (t : Bool) → (a.request == n) ≡ t → t ≡ false
    by_test true e =
        let same : a.request ≡ n = grind (arith, nat_tests) in
        let rides : roll.rides n ≡ true = subst (λ k. roll.rides k ≡ true) same is.rides in
        cc
    by_test false e = refl

-- no activity is a request that flies
pub flying_absent : (roll : Roll) (n : ℕ) (xs : List Activity) → roll.rides n ≡ false → AllByRecursion (IsActivityOf roll) xs → IsAbsent n xs
flying_absent roll n xs flies all = each_weaker (IsActivityOf roll) (λ a. is_of n a ≡ false) (rides_apart roll n flies) xs all

-- ---- reports of verification

-- with no command, no report does more than take its activity out
pub verified_none : (v : Verification) (m : MirrorState) → verified v None m ≡ m
verified_none report.Accepted m = refl
verified_none (report.AcceptanceFailed code) m = refl
verified_none report.Started m = refl
verified_none (report.StartFailed code) m = refl
verified_none (report.StepDone step) m = refl
verified_none (report.StepFailed step code) m = refl
verified_none report.Completed m = refl
verified_none (report.CompletionFailed code) m = refl

-- one report of a request with no command
pub plain_read : (roll : Roll) (r : Reporter) (m : MirrorState) (v : Verification) → roll.command_of r.request ≡ None → read_all roll m (tells r v ∷ []) ≡ without r.request m
plain_read roll r m v plain = ap (λ c. verified v c (without r.request m)) plain ∙ verified_none v (without r.request m)

-- so many of them, where it is no activity
pub plain_reads : (roll : Roll) (r : Reporter) (m : MirrorState) (vs : List Verification) → roll.command_of r.request ≡ None → without r.request m ≡ m → read_all roll m (map (tells r) vs) ≡ m
plain_reads roll r m [] plain absent = refl
plain_reads roll r m (v ∷ vs) plain absent = ap (λ k. read_all roll k (map (tells r) vs)) (plain_read roll r m v plain ∙ absent) ∙ plain_reads roll r m vs plain absent

-- the first report does nothing more, whatever the command
pub first_read : (roll : Roll) (r : Reporter) (m : MirrorState) (outcome : Outcome) → without r.request m ≡ m → read_all roll m (map (tells r) (first_reports r.ack outcome)) ≡ m
first_read roll r m outcome absent = by_outcome outcome
  where
    accepts : (wanted : Bool) → read_all roll m (map (tells r) (asked wanted (report.Accepted ∷ []))) ≡ m
    accepts true = absent
    accepts false = refl

    by_outcome : (o : Outcome) → read_all roll m (map (tells r) (first_reports r.ack o)) ≡ m
    by_outcome Completes = accepts r.ack.acceptance
    by_outcome (CompletesInSteps n) = accepts r.ack.acceptance
    by_outcome (Refuses code) = absent
    by_outcome (StartFails code) = accepts r.ack.acceptance
    by_outcome (Halts n code) = accepts r.ack.acceptance
    by_outcome (Fails code) = accepts r.ack.acceptance

-- nor does the start
start_read : (roll : Roll) (r : Reporter) (m : MirrorState) (wanted : Bool) → without r.request m ≡ m → read_all roll m (map (tells r) (asked wanted (report.Started ∷ []))) ≡ m
start_read roll r m true absent = absent
start_read roll r m false absent = refl

-- ---- the effect of a command

-- a filter of what is listed lists what passes
pub filter-listed : (p : ListedActivity → Bool) (xs : List Activity) → filter p (map listed xs) ≡ map listed (filter (λ a. p (listed a)) xs)
filter-listed p [] = refl
filter-listed p (x ∷ xs) = by_test (p (listed x)) (filter-listed p xs)
  where
    by_test : (t : Bool) → filter p (map listed xs) ≡ map listed (filter (λ a. p (listed a)) xs)
        → cond t (listed x ∷ filter p (map listed xs)) (filter p (map listed xs)) ≡ map listed (cond t (x ∷ filter (λ a. p (listed a)) xs) (filter (λ a. p (listed a)) xs))
    by_test true rest = ap (λ l. listed x ∷ l) rest
    by_test false rest = rest

-- a change of what is listed lists what is changed
map-listed : (g : ListedActivity → ListedActivity) (f : Activity → Activity) → ((a : Activity) → g (listed a) ≡ listed (f a)) → (xs : List Activity) → map g (map listed xs) ≡ map listed (map f xs)
map-listed g f same [] = refl
map-listed g f same (x ∷ xs) = ap (λ y. y ∷ map g (map listed xs)) (same x) ∙ ap (λ l. listed (f x) ∷ l) (map-listed g f same xs)

-- where none has this number, none that is listed has
none_listed : (n : ℕ) (xs : List Activity) → IsAbsent n xs → list_any (is_listed_of n) (map listed xs) ≡ false
none_listed n [] absent = refl
none_listed n (x ∷ xs) absent = rw absent.0 (none_listed n xs absent.1)

-- an identity is its own
pub same_identity-refl : (i : Identity) → is_same_identity i i ≡ true
same_identity-refl i =
    let one : (i.apid == i.apid) ≡ true = grind arith in
    let two : (i.count == i.count) ≡ true = grind arith in
    rw (one, two) refl

-- activities of two identities are not of one request
pub numbers_apart : (roll : Roll) (a b : Activity) → IsActivityOf roll a → IsActivityOf roll b → is_same_identity a.identity b.identity ≡ false → (a.request == b.request) ≡ false
numbers_apart roll a b of_a of_b apart = by_test (a.request == b.request) refl
  where
    by_test : (t : Bool) → (a.request == b.request) ≡ t → t ≡ false
    by_test true e =
        let number : a.request ≡ b.request = grind (arith, nat_tests) in
        let same : a.identity ≡ b.identity = sym of_a.named ∙ ap roll.identity_of number ∙ of_b.named in
        let is : is_same_identity a.identity b.identity ≡ true = subst (λ i. is_same_identity a.identity i ≡ true) same (same_identity-refl a.identity) in
        sym is ∙ apart
    by_test false e = refl

-- an activity whose identity is not there has no number that is there
new_absent : (roll : Roll) (a : Activity) (xs : List Activity) → IsActivityOf roll a → AllByRecursion (IsActivityOf roll) xs → list_any (has_identity a.identity) xs ≡ false → IsAbsent a.request xs
new_absent roll a xs is all none =
    each_both (IsActivityOf roll) (λ b. has_identity a.identity b ≡ false) (λ b. is_of a.request b ≡ false) (λ b of_b apart. numbers_apart roll b a of_b is apart) xs all
    (each_fails (has_identity a.identity) xs none)

-- a mirror is equal where its activities are
pub same_mirror : (enabled : Bool) (xs ys : List ListedActivity) → xs ≡ ys → (let m : MirrorState = record { enabled = enabled; activities = xs } in m) ≡ record { enabled = enabled; activities = ys }
same_mirror enabled xs ys same = ap (λ l. (let m : MirrorState = record { enabled = enabled; activities = l } in m)) same

-- a new activity is put behind the others
with-new : (new : ListedActivity) (xs : List Activity) → IsAbsent new.request xs → with_activity new (map listed xs) ≡ map listed xs ++ new ∷ []
with-new new xs absent = rw (none_listed new.request xs absent) refl

-- so are all of a list, one after the other
all_told : (roll : Roll) (xs ys : List Activity) → AllByRecursion (IsActivityOf roll) ys → AllByRecursion (IsActivityOf roll) xs → meets_one xs ys ≡ false → has_one_twice ys ≡ false
    → fold (λ known a. with_activity (listed a) known) (map listed xs) ys ≡ map listed (xs ++ ys)
all_told roll xs [] new all apart once = ap (map listed) (sym (append-nil xs))
all_told roll xs (a ∷ ys) new all apart once =
    let first = first_goes_in xs a ys apart once in
    ap (λ known. fold (λ k b. with_activity (listed b) k) known ys)
    (with-new (listed a) xs (new_absent roll a xs new.0 all first.0) ∙ sym (map-append listed xs (a ∷ [])))
    ∙ all_told roll (xs ++ a ∷ []) ys new.1 (each_appended (IsActivityOf roll) xs a all new.0) first.1 first.2
    ∙ ap (map listed) (append_assoc xs (a ∷ []) ys)

-- the mirror follows a command that does not fail
pub told_follows : (roll : Roll) (now : ℕ) (command : ScheduleCommand) (s : ScheduleState) → AllByRecursion (IsActivityOf roll) (inserted (Some command)) → AllByRecursion (IsActivityOf roll) s.activities
    → failure_of now command s ≡ None → told command (mirror_of s) ≡ mirror_of (commanded command s)
told_follows roll now Enable s new all passes = refl
told_follows roll now Disable s new all passes = refl
told_follows roll now Reset s new all passes = refl
told_follows roll now (Insert activities) s new all passes =
    let three = insert_passes _ _ _ _ passes in
    same_mirror s.enabled _ _ (all_told roll s.activities activities new all three.0 three.1)
told_follows roll now (Delete target) s new all passes = same_mirror s.enabled _ _ (filter-listed (λ a. not (is_listed_of target a)) s.activities)
told_follows roll now (Shift target offset) s new all passes =
    same_mirror s.enabled _ _ (map-listed (λ l. cond (is_listed_of target l) (moved offset l) l) (λ a. cond (is_of target a) (shifted offset a) a) (λ a. by_test a (is_of target a)) s.activities)
  where
    by_test : (a : Activity) (t : Bool) → cond t (moved offset (listed a)) (listed a) ≡ listed (cond t (shifted offset a) a)
    by_test a true = refl
    by_test a false = refl
told_follows roll now (ShiftAll offset) s new all passes = same_mirror s.enabled _ _ (map-listed (moved offset) (shifted offset) (λ a. refl) s.activities)
told_follows roll now Summarize s new all passes = refl

-- what a command shows leaves the mirror of its schedule as it is
shown_read : (roll : Roll) (command : ScheduleCommand) (s : ScheduleState) → IsSchedule s.activities → read_all roll (mirror_of s) (shown command s) ≡ mirror_of s
shown_read roll Enable s is = refl
shown_read roll Disable s is = refl
shown_read roll Reset s is = refl
shown_read roll (Insert activities) s is = refl
shown_read roll (Delete target) s is = refl
shown_read roll (Shift target offset) s is = refl
shown_read roll (ShiftAll offset) s is = refl
shown_read roll Summarize s is = same_mirror s.enabled _ _ (summary-told s.activities is)

-- ---- a request is carried out

-- the reports of a command, failing or not, make the mirror of what it leaves
command_follows : (roll : Roll) (now : ℕ) (r : Reporter) (command : ScheduleCommand) (s : ScheduleState) → roll.command_of r.request ≡ Some command
    → AllByRecursion (IsActivityOf roll) (inserted (Some command)) → IsAbsent r.request s.activities → AllByRecursion (IsActivityOf roll) s.activities → IsSchedule s.activities
    → (failure : Option ScheduleFault) → failure_of now command s ≡ failure
    → read_all roll (mirror_of s) (command_reports r failure command s) ≡ mirror_of (after_command failure command s)
command_follows roll now r command s named new absent all is (Some fault) e = without-absent r.request s absent
command_follows roll now r command s named new absent all is None e =
    read-append roll (mirror_of s) (start ++ shown command s) completed
    ∙ ap (λ m. read_all roll m completed) (read-append roll (mirror_of s) start (shown command s))
    ∙ ap (λ m. read_all roll (read_all roll m (shown command s)) completed) (start_read roll r (mirror_of s) r.ack.start (without-absent r.request s absent))
    ∙ ap (λ m. read_all roll m completed) (shown_read roll command s is)
    ∙ ap (λ c. told_by c (without r.request (mirror_of s))) named
    ∙ ap (told command) (without-absent r.request s absent)
    ∙ told_follows roll now command s new all e
  where
    start : List Telemetry
    start = map (tells r) (asked r.ack.start (report.Started ∷ []))

    completed : List Telemetry
    completed = tells r report.Completed ∷ []

-- the reports of carrying a task out make the mirror of what it leaves
pub task_follows : (roll : Roll) (now : ℕ) (r : Reporter) (task : Task) (s : ScheduleState) → roll.command_of r.request ≡ command_in task
    → AllByRecursion (IsActivityOf roll) (inserted (command_in task)) → IsAbsent r.request s.activities → AllByRecursion (IsActivityOf roll) s.activities → IsSchedule s.activities
    → read_all roll (mirror_of s) (task_reports now r task s) ≡ mirror_of (after_task now task s)
task_follows roll now r (Plain outcome) s named new absent all is = plain_reads roll r (mirror_of s) (later_reports r.ack outcome) named (without-absent r.request s absent)
task_follows roll now r (Schedule command) s named new absent all is = command_follows roll now r command s named new absent all is (failure_of now command s) refl

-- the work on the buffer
pub work_follows : (roll : Roll) (b : BoardState) (buffer : List Telecommand) → AllByRecursion (IsRequestOf roll) buffer → AllByRecursion (IsActivityOf roll) b.schedule.activities → IsSchedule b.schedule.activities
    → read_all roll (mirror_of b.schedule) (work_reports b buffer) ≡ mirror_of (worked b buffer).schedule
work_follows roll b [] requests all is = refl
work_follows roll b (oldest ∷ others) requests all is =
    task_follows roll b.time (reporter_of oldest) oldest.task b.schedule requests.0.command requests.0.inserts (flying_absent roll oldest.request b.schedule.activities requests.0.flies all) all is

-- a request comes: one report, or none, and the schedule stays as it is
pub accept_follows : (roll : Roll) (b : BoardState) (t : Telecommand) → IsRequestOf roll t → AllByRecursion (IsActivityOf roll) b.schedule.activities
    → read_all roll (mirror_of b.schedule) (accept_reports t) ≡ mirror_of (accepted t b).schedule
accept_follows roll b t request all =
    first_read roll (reporter_of t) (mirror_of b.schedule) (outcome_of t.task) (without-absent t.request b.schedule (flying_absent roll t.request b.schedule.activities request.flies all))
