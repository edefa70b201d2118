-- The on-board schedule (ECSS-E-ST-70-41C, 6.11 and 8.11): a set of activities, found by their requests' numbers, and a
-- status. Limits, margin and codes are this desk's own.
use Rattle.std.specs.Prelude.{◌≡◌, ℕ, ℤ, pos, negsuc, ◌+◌, ◌+ℤ◌, ◌==◌, ◌≤◌, nat_lt, nat_le, min, zero, suc, Bool, true, false, not, ◌&&◌, ◌||◌, if◌then◌else◌, Option, Some, None, Result, Ok, Err, OnOk, OnErr, List, [], ◌∷◌, ◌++◌, length, map, filter, IsPermutation, IsSortedBy, Vec, vec_capacity}
use Rattle.std.specs.List.{list_any, IsDistinct}
use Rattle.std.specs.Ordering.{ordering_then, nat_cmp, is_lt}
use Rattle.tc_types.specs.declared.link.activities.Activity.{Activity}
use Rattle.tc_types.specs.declared.link.activities.ListedActivity.{ListedActivity}
use Rattle.tc_types.specs.declared.link.activities.Summary.{Summary}
use Rattle.tc_types.specs.declared.requests.Identity.{Identity}
use Rattle.tc_types.specs.declared.link.telecommands.ScheduleCommand.{ScheduleCommand}
use Rattle.tc_types.specs.declared.link.telecommands.ScheduleCommand.TheVariants.{Enable, Disable, Reset, Insert, Delete, Shift, ShiftAll, Summarize}
use Rattle.tc_board.specs.declared.schedules.ScheduleFault.{ScheduleFault}
use Rattle.tc_board.specs.declared.schedules.ScheduleFault.TheVariants.{Time, NotThere, Full, IdentityInUse}

-- The list holds the members of the set. Nothing that is reported of a schedule hangs on their order here.
pub record ScheduleState : Type 0 where
  pub enabled : Bool
  pub activities : List Activity

-- a new schedule: empty and disabled
abbrev pub empty_schedule : ScheduleState
empty_schedule = record { enabled = false; activities = [] }

abbrev pub is_of : ℕ → Activity → Bool
is_of n activity = activity.request == n

abbrev pub is_same_identity : Identity → Identity → Bool
is_same_identity a b = (a.apid == b.apid) && (a.count == b.count)

abbrev pub has_identity : Identity → Activity → Bool
has_identity identity activity = is_same_identity activity.identity identity

-- two of them have one identity
abbrev pub has_one_twice : List Activity → Bool
has_one_twice [] = false
has_one_twice (activity ∷ others) = list_any (has_identity activity.identity) others || has_one_twice others

-- one of them has an identity that is there
abbrev pub meets_one : List Activity → List Activity → Bool
meets_one there activities = list_any (λ a. list_any (has_identity a.identity) there) activities

-- a schedule as it can be: at most 64 activities, no two of one identity
pub record IsSchedule (activities : List Activity) : Type 0 where
  pub few : length activities ≤ 64
  pub apart : IsDistinct is_same_identity (map (λ a. a.identity) activities)

-- a time to come is at least 60 s off
abbrev pub is_too_early : ℕ → ℕ → Bool
is_too_early now time = nat_lt time (now + 60)

-- a shifted time may be below 0 or past the last moment
abbrev pub is_bad_time : ℕ → ℤ → Bool
is_bad_time now (pos time) = is_too_early now time || nat_lt 4102444799 time
is_bad_time now (negsuc below) = true

abbrev pub shifted_time : ℤ → ℕ → ℤ
shifted_time offset time = pos time +ℤ offset

-- the nearest moment
abbrev pub nearest_moment : ℤ → ℕ
nearest_moment (pos time) = min time 4102444799
nearest_moment (negsuc below) = 0

abbrev pub shifted : ℤ → Activity → Activity
shifted offset activity = record activity { time = nearest_moment (shifted_time offset activity.time) }

abbrev pub shifts_badly : ℕ → ℤ → Activity → Bool
shifts_badly now offset activity = is_bad_time now (shifted_time offset activity.time)

-- the codes of failures
abbrev pub fault_code : ScheduleFault → ℕ
fault_code Time = 2  -- a time too early, or past the last
fault_code NotThere = 3  -- no such activity
fault_code Full = 4  -- the schedule is full
fault_code IdentityInUse = 6  -- an identity is there, or comes twice

-- The tests of each command, each with its failure, in order. The first that holds is the command's failure.
abbrev pub tests_of : ℕ → ScheduleCommand → ScheduleState → List (Bool × ScheduleFault)
tests_of now Enable s = []
tests_of now Disable s = []
tests_of now Reset s = []
tests_of now (Insert activities) s =
    (list_any (λ a. is_too_early now a.time) activities, Time)
    ∷ (meets_one s.activities activities || has_one_twice activities, IdentityInUse)
    ∷ (nat_lt 64 (length s.activities + length activities), Full)
    ∷ []
tests_of now (Delete target) s = (not (list_any (is_of target) s.activities), NotThere) ∷ []
tests_of now (Shift target offset) s =
    (not (list_any (is_of target) s.activities), NotThere)
    ∷ (list_any (λ a. is_of target a && shifts_badly now offset a) s.activities, Time)
    ∷ []
tests_of now (ShiftAll offset) s = (list_any (shifts_badly now offset) s.activities, Time) ∷ []
tests_of now Summarize s = []

abbrev pub first_failure : List (Bool × ScheduleFault) → Option ScheduleFault
first_failure [] = None
first_failure (test ∷ tests) = if test.0 then Some test.1 else first_failure tests

-- why a command fails
abbrev pub failure_of : ℕ → ScheduleCommand → ScheduleState → Option ScheduleFault
failure_of now command s = first_failure (tests_of now command s)

-- what each command makes of the schedule where it does not fail
abbrev pub commanded : ScheduleCommand → ScheduleState → ScheduleState
commanded Enable s = record s { enabled = true }
commanded Disable s = record s { enabled = false }
commanded Reset s = empty_schedule
commanded (Insert activities) s = record s { activities = s.activities ++ activities }
commanded (Delete target) s = record s { activities = filter (λ a. not (is_of target a)) s.activities }
commanded (Shift target offset) s = record s { activities = map (λ a. if is_of target a then shifted offset a else a) s.activities }
commanded (ShiftAll offset) s = record s { activities = map (shifted offset) s.activities }
commanded Summarize s = s

-- a command that fails changes nothing
abbrev pub after_command : Option ScheduleFault → ScheduleCommand → ScheduleState → ScheduleState
after_command None command s = commanded command s
after_command (Some fault) command s = s

-- the failure that a call answers
abbrev pub fault_of : {T : Type 0} → Result T ScheduleFault → Option ScheduleFault
fault_of (Ok done) = None
fault_of (Err fault) = Some fault

-- A command is carried out, or answered with its failure.
pub record Obeys {T : Type 0} (now : ℕ) (command : ScheduleCommand) (old new : ScheduleState) (result : Result T ScheduleFault) : Type 0 where
  pub failure : fault_of result ≡ failure_of now command old
  pub after : new ≡ after_command (fault_of result) command old

-- A call makes this of what it is given, where it is not refused; else it leaves it.
pub record Becomes {S T E : Type 0} (old new after : S) (result : Result T E) : Type 0 where
  pub done : OnOk result (new ≡ after)
  pub unchanged : OnErr result (new ≡ old)

-- The list has these now, and the room that it had.
pub record Holds {A : Type 0} (activities : List Activity) (old new : Vec Activity A) : Type 0 where
  pub items : new.items ≡ activities
  pub room : vec_capacity new ≡ vec_capacity old

abbrev pub is_due : ℕ → Activity → Bool
is_due now activity = nat_le activity.time now

-- the schedule once what falls due has left it
abbrev pub after_due : ℕ → ScheduleState → ScheduleState
after_due now s = record s { activities = filter (λ a. not (is_due now a)) s.activities }

-- by time, then by application process, then by count
abbrev pub is_before : ℕ → Identity → ℕ → Identity → Bool
is_before time identity other_time other_identity =
    is_lt (ordering_then (ordering_then (nat_cmp time other_time) (nat_cmp identity.apid other_identity.apid)) (nat_cmp identity.count other_identity.count))

-- these fall due by now, in the order in which they are released
pub record FallDue (now : ℕ) (s : ScheduleState) (due : List Activity) : Type 0 where
  pub all : IsPermutation (filter (is_due now) s.activities) due
  pub ordered : IsSortedBy (λ a b. is_before a.time a.identity b.time b.identity) due

-- what a summary tells of an activity
abbrev pub listed : Activity → ListedActivity
listed activity = record { request = activity.request; identity = activity.identity; time = activity.time }

-- so many places, the first of them taken by these
abbrev pub places_for : ℕ → List ListedActivity → List (Option ListedActivity)
places_for zero activities = []
places_for (suc n) [] = None ∷ places_for n []
places_for (suc n) (activity ∷ activities) = Some activity ∷ places_for n activities

-- TM[11,13]
abbrev pub summary_of : ScheduleState → Summary
summary_of s = record { enabled = s.enabled; activities = places_for 64 (map listed s.activities) }
