-- That a schedule stays one, at most 64 activities and no two of one identity, and that the spacecraft keeps what the desk releases.
use Rattle.std.proofs.Common.{◌≡◌, ℕ, ◌+◌, ◌==◌, ◌<◌, ◌≤◌, Bool, true, false, cond, Option, Some, None, List, [], ◌∷◌, ◌++◌, length, map, refl, sym, ◌∙◌, ap, subst, arith}
use Rattle.std.specs.Prelude.{ℤ, not, ◌||◌, filter, nat_lt}
use Rattle.std.specs.List.{list_any, AllByRecursion, IsDistinct}
use Rattle.std.proofs.lemmas.Bool.Decides.{nat_tests}
use Rattle.std.proofs.lemmas.List.{append-nil, append_assoc, length-append, length-map}
use Rattle.std.proofs.lemmas.List.Sums.{length-filter, count_by-le-length}
use Rattle.tc_types.specs.declared.link.activities.Activity.{Activity}
use Rattle.tc_types.specs.declared.requests.Identity.{Identity}
use Rattle.tc_types.specs.declared.link.telecommands.ScheduleCommand.{ScheduleCommand}
use Rattle.tc_types.specs.declared.link.telecommands.ScheduleCommand.TheVariants.{Enable, Disable, Reset, Insert, Delete, Shift, ShiftAll, Summarize}
use Rattle.tc_types.specs.declared.link.telecommands.Task.{Task}
use Rattle.tc_types.specs.declared.link.telecommands.Task.TheVariants.{Plain, Schedule}
use Rattle.tc_types.specs.declared.link.telecommands.Telecommand.{Telecommand}
use Rattle.tc_types.proofs.RideLemmas.{each_appended}
use Rattle.tc_board.specs.declared.schedules.ScheduleFault.{ScheduleFault}
use Rattle.tc_board.specs.declared.schedules.ScheduleFault.TheVariants.{Time, Full, IdentityInUse}
use Rattle.tc_board.specs.Schedule.{ScheduleState, is_of, is_same_identity, has_identity, has_one_twice, meets_one, IsSchedule, shifted, first_failure, failure_of, commanded, after_command, is_due}
use Rattle.tc_board.specs.Reports.{is_refused}
use Rattle.tc_board.specs.Board.{BoardState, new_board, outcome_of, accepted, after_task, worked, clocked}
use Rattle.tc_board.specs.Follows.{Roll, IsActivityOf, command_in, inserted, IsRequestOf, IsBoardOf}

-- ---- what holds of each of a list

-- what each has, and what follows from it, each has
pub each_weaker : {X : Type 0} (P Q : X → Type 0) → ((x : X) → P x → Q x) → (xs : List X) → AllByRecursion P xs → AllByRecursion Q xs
each_weaker P Q may [] all = tt
each_weaker P Q may (x ∷ xs) all = (may x all.0, each_weaker P Q may xs all.1)

-- what follows from two that each has, each has
pub each_both : {X : Type 0} (P Q R : X → Type 0) → ((x : X) → P x → Q x → R x) → (xs : List X) → AllByRecursion P xs → AllByRecursion Q xs → AllByRecursion R xs
each_both P Q R may [] first second = tt
each_both P Q R may (x ∷ xs) first second = (may x first.0 second.0, each_both P Q R may xs first.1 second.1)

-- what holds of each of two lists holds of each of them joined
pub each_joined : {X : Type 0} (P : X → Type 0) (xs ys : List X) → AllByRecursion P xs → AllByRecursion P ys → AllByRecursion P (xs ++ ys)
each_joined P [] ys first second = second
each_joined P (x ∷ xs) ys first second = (first.0, each_joined P xs ys first.1 second)

-- those that pass a test
pub each_filtered : {X : Type 0} (P : X → Type 0) (p : X → Bool) (xs : List X) → AllByRecursion P xs → AllByRecursion P (filter p xs)
each_filtered P p [] all = tt
each_filtered P p (x ∷ xs) all = by_test (p x) (each_filtered P p xs all.1)
  where
    by_test : (t : Bool) → AllByRecursion P (filter p xs) → AllByRecursion P (cond t (x ∷ filter p xs) (filter p xs))
    by_test true rest = (all.0, rest)
    by_test false rest = rest

-- what a map makes of each
pub each_mapped : {X : Type 0} {Y : Type 0} (P : Y → Type 0) (f : X → Y) (xs : List X) → AllByRecursion (λ x. P (f x)) xs → AllByRecursion P (map f xs)
each_mapped P f [] all = tt
each_mapped P f (x ∷ xs) all = (all.0, each_mapped P f xs all.1)

-- the way back
pub each_before : {X : Type 0} {Y : Type 0} (P : Y → Type 0) (f : X → Y) (xs : List X) → AllByRecursion P (map f xs) → AllByRecursion (λ x. P (f x)) xs
each_before P f [] all = tt
each_before P f (x ∷ xs) all = (all.0, each_before P f xs all.1)

-- where a test finds none, neither does it here nor among the others
pub neither : (a b : Bool) → (a || b) ≡ false → (a ≡ false) × (b ≡ false)
neither true b e = cc
neither false b e = (refl, e)

-- where a test finds none, each fails it
pub each_fails : {X : Type 0} (p : X → Bool) (xs : List X) → list_any p xs ≡ false → AllByRecursion (λ x. p x ≡ false) xs
each_fails p [] none = tt
each_fails p (x ∷ xs) none = let both = neither (p x) (list_any p xs) none in (both.0, each_fails p xs both.1)

-- where each fails a test, it finds none
pub none_passes : {X : Type 0} (p : X → Bool) (xs : List X) → AllByRecursion (λ x. p x ≡ false) xs → list_any p xs ≡ false
none_passes p [] all = refl
none_passes p (x ∷ xs) all = rw all.0 (none_passes p xs all.1)

-- ---- identities apart

-- the identities of activities
abbrev pub identities : List Activity → List Identity
identities activities = map (λ a. a.identity) activities

-- one identity is another, whichever is named first
same_both_ways : (a b : Identity) → is_same_identity a b ≡ is_same_identity b a
same_both_ways a b =
    let apid : (a.apid == b.apid) ≡ (b.apid == a.apid) = grind (arith, nat_tests) in
    let count : (a.count == b.count) ≡ (b.count == a.count) = grind (arith, nat_tests) in
    rw (apid, count) refl

-- one more, of an identity that is not there
apart_appended : (xs : List Activity) (a : Activity) → list_any (has_identity a.identity) xs ≡ false → IsDistinct is_same_identity (identities xs) → IsDistinct is_same_identity (identities (xs ++ a ∷ []))
unfolding IsDistinct
apart_appended [] a none apart = (tt, tt)
apart_appended (b ∷ bs) a none apart = (first, apart_appended bs a both.1 apart.1)
  where
    both : (has_identity a.identity b ≡ false) × (list_any (has_identity a.identity) bs ≡ false)
    both = neither (has_identity a.identity b) (list_any (has_identity a.identity) bs) none

    first : AllByRecursion (λ i. is_same_identity b.identity i ≡ false) (identities (bs ++ a ∷ []))
    first =
        each_mapped (λ i. is_same_identity b.identity i ≡ false) (λ c. c.identity) (bs ++ a ∷ [])
        (each_appended (λ c. is_same_identity b.identity c.identity ≡ false) bs a (each_before (λ i. is_same_identity b.identity i ≡ false) (λ c. c.identity) bs apart.0) both.0)

-- those that pass a test
apart_filtered : (p : Activity → Bool) (xs : List Activity) → IsDistinct is_same_identity (identities xs) → IsDistinct is_same_identity (identities (filter p xs))
unfolding IsDistinct
apart_filtered p [] apart = tt
apart_filtered p (a ∷ xs) apart = by_test (p a) (apart_filtered p xs apart.1)
  where
    first : AllByRecursion (λ i. is_same_identity a.identity i ≡ false) (identities (filter p xs))
    first =
        each_mapped (λ i. is_same_identity a.identity i ≡ false) (λ c. c.identity) (filter p xs)
        (each_filtered (λ c. is_same_identity a.identity c.identity ≡ false) p xs (each_before (λ i. is_same_identity a.identity i ≡ false) (λ c. c.identity) xs apart.0))

    by_test : (t : Bool) → IsDistinct is_same_identity (identities (filter p xs)) → IsDistinct is_same_identity (identities (cond t (a ∷ filter p xs) (filter p xs)))
    by_test true rest = (first, rest)
    by_test false rest = rest

-- what leaves each identity as it is leaves all of them
pub identities_kept : (f : Activity → Activity) → ((a : Activity) → (f a).identity ≡ a.identity) → (xs : List Activity) → identities (map f xs) ≡ identities xs
identities_kept f same [] = refl
identities_kept f same (a ∷ xs) = ap (λ i. i ∷ identities (map f xs)) (same a) ∙ ap (λ l. a.identity ∷ l) (identities_kept f same xs)

-- ---- schedules

-- an empty schedule
pub schedule_empty : IsSchedule []
unfolding IsDistinct
schedule_empty = record { few = omega arith; apart = tt }

-- one more activity, of an identity that is not there, where there is room
pub schedule_appended : (xs : List Activity) (a : Activity) → IsSchedule xs → list_any (has_identity a.identity) xs ≡ false → length xs < 64 → IsSchedule (xs ++ a ∷ [])
schedule_appended xs a is none room = record { few = (let len = length-append xs (a ∷ []) in omega (arith, len)); apart = apart_appended xs a none is.apart }

-- the first of a list goes in: its identity is not there, and those of the others are not there then
pub first_goes_in : (xs : List Activity) (a : Activity) (others : List Activity) → meets_one xs (a ∷ others) ≡ false → has_one_twice (a ∷ others) ≡ false
    → (list_any (has_identity a.identity) xs ≡ false) × (meets_one (xs ++ a ∷ []) others ≡ false) × (has_one_twice others ≡ false)
first_goes_in xs a others new once =
    let met = neither (list_any (has_identity a.identity) xs) (meets_one xs others) new in
    let twice = neither (list_any (has_identity a.identity) others) (has_one_twice others) once in (
      met.0,
      none_passes (λ b. list_any (has_identity b.identity) (xs ++ a ∷ [])) others
          (each_both (λ b. list_any (has_identity b.identity) xs ≡ false) (λ b. has_identity a.identity b ≡ false) (λ b. list_any (has_identity b.identity) (xs ++ a ∷ []) ≡ false) (λ b apart other. none_behind xs a b apart other) others
          (each_fails (λ b. list_any (has_identity b.identity) xs) others met.1) (each_fails (has_identity a.identity) others twice.0)),
      twice.1,
    )
  where
    none_behind : (xs : List Activity) (a b : Activity) → list_any (has_identity b.identity) xs ≡ false → has_identity a.identity b ≡ false → list_any (has_identity b.identity) (xs ++ a ∷ []) ≡ false
    none_behind [] a b apart other = rw (same_both_ways a.identity b.identity, other) refl
    none_behind (x ∷ xs) a b apart other =
        let both = neither (has_identity b.identity x) (list_any (has_identity b.identity) xs) apart in
        rw both.0 (none_behind xs a b both.1 other)

-- a list of activities, no two of one identity, of which none is there, where there is room
pub schedule_joined : (xs ys : List Activity) → IsSchedule xs → meets_one xs ys ≡ false → has_one_twice ys ≡ false → length xs + length ys ≤ 64 → IsSchedule (xs ++ ys)
schedule_joined xs [] is new once room = subst IsSchedule (sym (append-nil xs)) is
schedule_joined xs (a ∷ ys) is new once room =
    let first = first_goes_in xs a ys new once in
    let len = length-append xs (a ∷ []) in
    subst IsSchedule (append_assoc xs (a ∷ []) ys)
    (schedule_joined (xs ++ a ∷ []) ys (schedule_appended xs a is first.0 (omega (arith, room))) first.1 first.2 (omega (arith, room, len)))

-- those that pass a test
pub schedule_filtered : (p : Activity → Bool) (xs : List Activity) → IsSchedule xs → IsSchedule (filter p xs)
schedule_filtered p xs is = record {
  few = (let len = length-filter p xs in let less = count_by-le-length p xs in omega (arith, len, less));
  apart = apart_filtered p xs is.apart;
}

-- what leaves each identity as it is
pub schedule_mapped : (f : Activity → Activity) → ((a : Activity) → (f a).identity ≡ a.identity) → (xs : List Activity) → IsSchedule xs → IsSchedule (map f xs)
schedule_mapped f same xs is = record {
  few = (let len = length-map xs f in omega (arith, len));
  apart = subst (IsDistinct is_same_identity) (sym (identities_kept f same xs)) is.apart;
}

-- ---- commands of the schedule

-- where an insert does not fail, no identity is there or comes twice, and there is room
pub insert_passes : (early there twice full : Bool) → first_failure ((early, Time) ∷ (there || twice, IdentityInUse) ∷ (full, Full) ∷ []) ≡ None → (there ≡ false) × (twice ≡ false) × (full ≡ false)
insert_passes true there twice full passes = cc
insert_passes false true twice full passes = cc
insert_passes false false true full passes = cc
insert_passes false false false true passes = cc
insert_passes false false false false passes = (refl, refl, refl)

-- a command that does not fail leaves a schedule
pub command_sound : (now : ℕ) (command : ScheduleCommand) (s : ScheduleState) → IsSchedule s.activities → failure_of now command s ≡ None → IsSchedule (commanded command s).activities
command_sound now Enable s is passes = is
command_sound now Disable s is passes = is
command_sound now Reset s is passes = schedule_empty
command_sound now (Insert activities) s is passes =
    let three = insert_passes _ _ _ _ passes in
    let full : nat_lt 64 (length s.activities + length activities) ≡ false = three.2 in
    schedule_joined s.activities activities is three.0 three.1 (grind (arith, nat_tests, full))
command_sound now (Delete target) s is passes = schedule_filtered (λ a. not (is_of target a)) s.activities is
command_sound now (Shift target offset) s is passes = schedule_mapped (λ a. cond (is_of target a) (shifted offset a) a) (λ a. by_test a (is_of target a)) s.activities is
  where
    by_test : (a : Activity) (t : Bool) → (cond t (shifted offset a) a).identity ≡ a.identity
    by_test a true = refl
    by_test a false = refl
command_sound now (ShiftAll offset) s is passes = schedule_mapped (shifted offset) (λ a. refl) s.activities is
command_sound now Summarize s is passes = is

-- an activity at another time is as the desk inserts it
shifted_named : (roll : Roll) (offset : ℤ) (a : Activity) → IsActivityOf roll a → IsActivityOf roll (shifted offset a)
shifted_named roll offset a is = record { rides = is.rides; named = is.named; plain = is.plain; acknowledged = is.acknowledged }

-- a command keeps what holds of each activity, whatever its time
pub command_each : (P : Activity → Type 0) → ((offset : ℤ) (a : Activity) → P a → P (shifted offset a)) → (command : ScheduleCommand) (s : ScheduleState) → AllByRecursion P (inserted (Some command)) → AllByRecursion P s.activities
    → AllByRecursion P (commanded command s).activities
command_each P later Enable s new all = all
command_each P later Disable s new all = all
command_each P later Reset s new all = tt
command_each P later (Insert activities) s new all = each_joined P s.activities activities all new
command_each P later (Delete target) s new all = each_filtered P (λ a. not (is_of target a)) s.activities all
command_each P later (Shift target offset) s new all =
    each_mapped P (λ a. cond (is_of target a) (shifted offset a) a) s.activities
    (each_weaker P (λ a. P (cond (is_of target a) (shifted offset a) a)) (λ a is. by_test a (is_of target a) is) s.activities all)
  where
    by_test : (a : Activity) (t : Bool) → P a → P (cond t (shifted offset a) a)
    by_test a true is = later offset a is
    by_test a false is = is
command_each P later (ShiftAll offset) s new all = each_mapped P (shifted offset) s.activities (each_weaker P (λ a. P (shifted offset a)) (later offset) s.activities all)
command_each P later Summarize s new all = all

-- ---- the spacecraft

-- what is carried out leaves the activities as the desk inserts them, and a schedule
task_sound : (roll : Roll) (now : ℕ) (task : Task) (s : ScheduleState) → AllByRecursion (IsActivityOf roll) (inserted (command_in task)) → AllByRecursion (IsActivityOf roll) s.activities → IsSchedule s.activities
    → AllByRecursion (IsActivityOf roll) (after_task now task s).activities × IsSchedule (after_task now task s).activities
task_sound roll now (Plain outcome) s new all is = (all, is)
task_sound roll now (Schedule command) s new all is = by_failure (failure_of now command s) refl
  where
    by_failure : (failure : Option ScheduleFault) → failure_of now command s ≡ failure
        → AllByRecursion (IsActivityOf roll) (after_command failure command s).activities × IsSchedule (after_command failure command s).activities
    by_failure (Some fault) e = (all, is)
    by_failure None e = (command_each (IsActivityOf roll) (shifted_named roll) command s new all, command_sound now command s is e)

-- a new spacecraft
pub new_sound : (roll : Roll) (time : ℕ) → IsBoardOf roll (new_board time)
new_sound roll time = record { requests = tt; activities = tt; schedule = schedule_empty }

-- once a request came
pub accepted_sound : (roll : Roll) (b : BoardState) (t : Telecommand) → IsBoardOf roll b → IsRequestOf roll t → IsBoardOf roll (accepted t b)
accepted_sound roll b t is request = record { requests = by_test (is_refused (outcome_of t.task)); activities = is.activities; schedule = is.schedule }
  where
    by_test : (refused : Bool) → AllByRecursion (IsRequestOf roll) (cond refused b.buffer (b.buffer ++ t ∷ []))
    by_test true = is.requests
    by_test false = each_appended (IsRequestOf roll) b.buffer t is.requests request

-- once the oldest request was carried out
pub worked_sound : (roll : Roll) (b : BoardState) (buffer : List Telecommand) → IsBoardOf roll b → AllByRecursion (IsRequestOf roll) buffer → IsBoardOf roll (worked b buffer)
worked_sound roll b [] is requests = is
worked_sound roll b (oldest ∷ others) is requests =
    let left = task_sound roll b.time oldest.task b.schedule requests.0.inserts is.activities is.schedule in
    record { requests = requests.1; activities = left.0; schedule = left.1 }

-- once the time went on
pub clocked_sound : (roll : Roll) (time : ℕ) (b : BoardState) → IsBoardOf roll b → IsBoardOf roll (clocked time b)
clocked_sound roll time b is = record {
  requests = is.requests;
  activities = each_filtered (IsActivityOf roll) (λ a. not (is_due time a)) b.schedule.activities is.activities;
  schedule = schedule_filtered (λ a. not (is_due time a)) b.schedule.activities is.schedule;
}
