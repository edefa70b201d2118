-- What falls due leaves the mirror as it leaves the schedule.
use Rattle.std.proofs.Common.{◌≡◌, ℕ, ◌==◌, Bool, true, false, cond, None, List, [], ◌∷◌, ◌++◌, map, refl, sym, ◌∙◌, ap, arith}
use Rattle.std.specs.Prelude.{not, ◌||◌, filter}
use Rattle.std.specs.List.{list_any, AllByRecursion, IsDistinct, flat_map}
use Rattle.std.proofs.lemmas.List.Elements.{All-from_recursion, recursion_from_All}
use Rattle.std.proofs.lemmas.List.Sorted.{All-permutation, list_any-IsPermutation}
use Rattle.std.proofs.lemmas.Bool.Decides.{nat_tests}
use Rattle.tc_types.specs.declared.link.activities.Activity.{Activity}
use Rattle.tc_types.specs.declared.link.activities.ListedActivity.{ListedActivity}
use Rattle.tc_types.specs.declared.requests.Ack.{Ack}
use Rattle.tc_types.specs.declared.requests.Outcome.{Outcome}
use Rattle.tc_types.specs.declared.requests.Outcome.TheVariants.{Completes, CompletesInSteps, Refuses, StartFails, Halts, Fails}
use Rattle.tc_types.specs.declared.link.reports.Telemetry.{Telemetry}
use Rattle.tc_types.specs.declared.link.reports.Verification.{Verification}
use Rattle.tc_types.specs.declared.link.reports.Verification.TheVariants as report
use Rattle.tc_board.specs.declared.outcomes.Reporter.{Reporter}
use Rattle.tc_board.specs.Schedule.{ScheduleState, is_same_identity, IsSchedule, is_due, after_due, FallDue, listed}
use Rattle.tc_board.specs.Reports.{tells, asked, later_reports, reports_of}
use Rattle.tc_board.specs.Board.{reporter_at, released, ClockReports}
use Rattle.tc_board.specs.Mirror.{MirrorState, mirror_of, is_listed_of, without}
use Rattle.tc_board.specs.Follows.{Roll, IsActivityOf, read_all}
use Rattle.tc_board.proofs.SoundLemmas.{identities, each_weaker, each_both, each_filtered, each_before, none_passes}
use Rattle.tc_board.proofs.FollowLemmas.{read-append, plain_read, plain_reads, filter-listed, numbers_apart, same_mirror}

-- ---- one activity

-- a filter twice is the filter once
filter_twice : (n : ℕ) (xs : List ListedActivity) → filter (λ a. not (is_listed_of n a)) (filter (λ a. not (is_listed_of n a)) xs) ≡ filter (λ a. not (is_listed_of n a)) xs
filter_twice n [] = refl
filter_twice n (x ∷ xs) = by_test (is_listed_of n x) refl (filter_twice n xs)
  where
    by_test : (t : Bool) → is_listed_of n x ≡ t → filter (λ a. not (is_listed_of n a)) (filter (λ a. not (is_listed_of n a)) xs) ≡ filter (λ a. not (is_listed_of n a)) xs
        → filter (λ a. not (is_listed_of n a)) (cond (not t) (x ∷ filter (λ a. not (is_listed_of n a)) xs) (filter (λ a. not (is_listed_of n a)) xs))
        ≡ cond (not t) (x ∷ filter (λ a. not (is_listed_of n a)) xs) (filter (λ a. not (is_listed_of n a)) xs)
    by_test true e same = same
    by_test false e same = rw e (ap (λ l. x ∷ l) same)

-- what was taken out is not there
without_twice : (n : ℕ) (m : MirrorState) → without n (without n m) ≡ without n m
without_twice n m = same_mirror m.enabled _ _ (filter_twice n m.activities)

-- reports of a request with no command take its activity out, once there is one
some_reads : (roll : Roll) (r : Reporter) (m : MirrorState) (v : Verification) (vs : List Verification) → roll.command_of r.request ≡ None → read_all roll m (map (tells r) (v ∷ vs)) ≡ without r.request m
some_reads roll r m v vs plain =
    ap (λ k. read_all roll k (map (tells r) vs)) (plain_read roll r m v plain)
    ∙ plain_reads roll r (without r.request m) vs plain (without_twice r.request m)

-- a request that asks for its acceptance makes a report
reports_some : (ack : Ack) (outcome : Outcome) → ack.acceptance ≡ true → (v : Verification) × (vs : List Verification) × (reports_of ack outcome ≡ v ∷ vs)
reports_some ack Completes asks = (report.Accepted, later_reports ack Completes, ap (λ b. asked b (report.Accepted ∷ []) ++ later_reports ack Completes) asks)
reports_some ack (CompletesInSteps n) asks = (report.Accepted, later_reports ack (CompletesInSteps n), ap (λ b. asked b (report.Accepted ∷ []) ++ later_reports ack (CompletesInSteps n)) asks)
reports_some ack (Refuses code) asks = (report.AcceptanceFailed code, [], refl)
reports_some ack (StartFails code) asks = (report.Accepted, later_reports ack (StartFails code), ap (λ b. asked b (report.Accepted ∷ []) ++ later_reports ack (StartFails code)) asks)
reports_some ack (Halts n code) asks = (report.Accepted, later_reports ack (Halts n code), ap (λ b. asked b (report.Accepted ∷ []) ++ later_reports ack (Halts n code)) asks)
reports_some ack (Fails code) asks = (report.Accepted, later_reports ack (Fails code), ap (λ b. asked b (report.Accepted ∷ []) ++ later_reports ack (Fails code)) asks)

-- what an activity reports as it falls due takes it out
released_read : (roll : Roll) (enabled : Bool) (a : Activity) (m : MirrorState) → IsActivityOf roll a → read_all roll m (released enabled a) ≡ without a.request m
released_read roll true a m is =
    let some = reports_some a.ack a.outcome is.acknowledged in
    ap (λ vs. read_all roll m (map (tells (reporter_at a)) vs)) some.2
    ∙ some_reads roll (reporter_at a) m some.0 some.1 is.plain
released_read roll false a m is = refl

-- ---- all that fall due

-- whether one of these has the number of what is listed
abbrev is_among : List Activity → ListedActivity → Bool
is_among due l = list_any (λ d. is_listed_of d.request l) due

-- what none takes out stays
filter_none : (xs : List ListedActivity) → xs ≡ filter (λ l. not (is_among [] l)) xs
filter_none [] = refl
filter_none (x ∷ xs) = ap (λ l. x ∷ l) (filter_none xs)

-- the first takes out, then the others
filter_more : (d : Activity) (due : List Activity) (xs : List ListedActivity)
    → filter (λ l. not (is_among due l)) (filter (λ l. not (is_listed_of d.request l)) xs) ≡ filter (λ l. not (is_among (d ∷ due) l)) xs
filter_more d due [] = refl
filter_more d due (x ∷ xs) = by_test (is_listed_of d.request x) (is_among due x) refl (filter_more d due xs)
  where
    by_test : (t u : Bool) → is_among due x ≡ u → filter (λ l. not (is_among due l)) (filter (λ l. not (is_listed_of d.request l)) xs) ≡ filter (λ l. not (is_among (d ∷ due) l)) xs
        → filter (λ l. not (is_among due l)) (cond (not t) (x ∷ filter (λ l. not (is_listed_of d.request l)) xs) (filter (λ l. not (is_listed_of d.request l)) xs))
        ≡ cond (not (t || is_among due x)) (x ∷ filter (λ l. not (is_among (d ∷ due) l)) xs) (filter (λ l. not (is_among (d ∷ due) l)) xs)
    by_test true u e same = same
    by_test false true e same = rw e same
    by_test false false e same = rw e (ap (λ l. x ∷ l) same)

-- what is reported as they fall due, in any order, takes out each that has one of their numbers
due_read : (roll : Roll) (enabled : Bool) (due : List Activity) (m : MirrorState) → AllByRecursion (IsActivityOf roll) due
    → read_all roll m (flat_map (released enabled) due) ≡ record { enabled = m.enabled; activities = filter (λ l. not (is_among due l)) m.activities }
due_read roll enabled [] m all = same_mirror m.enabled _ _ (filter_none m.activities)
due_read roll enabled (d ∷ due) m all =
    read-append roll m (released enabled d) (flat_map (released enabled) due)
    ∙ ap (λ k. read_all roll k (flat_map (released enabled) due)) (released_read roll enabled d m all.0)
    ∙ due_read roll enabled due (without d.request m) all.1
    ∙ same_mirror m.enabled _ _ (filter_more d due m.activities)

-- ---- what falls due, and what has its number

-- whether one of these has the number of this activity
abbrev has_number : Activity → List Activity → Bool
has_number a due = list_any (λ d. a.request == d.request) due

-- the first of distinct activities has the number of none of the others
first_apart : (roll : Roll) (a : Activity) (xs : List Activity) → IsActivityOf roll a → AllByRecursion (IsActivityOf roll) xs → IsDistinct is_same_identity (identities (a ∷ xs))
    → AllByRecursion (λ b. (a.request == b.request) ≡ false) xs
unfolding IsDistinct
first_apart roll a xs is all apart =
    each_both (IsActivityOf roll) (λ b. is_same_identity a.identity b.identity ≡ false) (λ b. (a.request == b.request) ≡ false)
    (λ b of_b differs. numbers_apart roll a b is of_b differs) xs all
    (each_before (λ i. is_same_identity a.identity i ≡ false) (λ b. b.identity) xs apart.0)

-- and so are the others
others_apart : (a : Activity) (xs : List Activity) → IsDistinct is_same_identity (identities (a ∷ xs)) → IsDistinct is_same_identity (identities xs)
unfolding IsDistinct
others_apart a xs apart = apart.1

-- two numbers differ either way round
flipped : (m n : ℕ) → (m == n) ≡ false → (n == m) ≡ false
flipped m n e = grind (arith, nat_tests)

-- a number is its own
itself : (n : ℕ) → (n == n) ≡ true
itself n = grind (arith, nat_tests)

-- of distinct activities, one has the number of one that passes a test exactly if it passes itself
number_tells : (roll : Roll) (p : Activity → Bool) (xs : List Activity) → AllByRecursion (IsActivityOf roll) xs → IsDistinct is_same_identity (identities xs)
    → AllByRecursion (λ a. has_number a (filter p xs) ≡ p a) xs
number_tells roll p [] all apart = tt
number_tells roll p (a ∷ xs) all apart = (by_first (p a), others (number_tells roll p xs all.1 (others_apart a xs apart)))
  where
    differ : AllByRecursion (λ b. (a.request == b.request) ≡ false) xs
    differ = first_apart roll a xs all.0 all.1 apart

    by_first : (t : Bool) → has_number a (cond t (a ∷ filter p xs) (filter p xs)) ≡ t
    by_first true = rw (itself a.request) refl
    by_first false = none_passes (λ d. a.request == d.request) (filter p xs) (each_filtered (λ b. (a.request == b.request) ≡ false) p xs differ)

    by_other : (t : Bool) (b : Activity) → has_number b (filter p xs) ≡ p b → (a.request == b.request) ≡ false → has_number b (cond t (a ∷ filter p xs) (filter p xs)) ≡ p b
    by_other true b same apart = rw (flipped a.request b.request apart) same
    by_other false b same apart = same

    others : AllByRecursion (λ b. has_number b (filter p xs) ≡ p b) xs → AllByRecursion (λ b. has_number b (filter p (a ∷ xs)) ≡ p b) xs
    others tells =
        each_both (λ b. has_number b (filter p xs) ≡ p b) (λ b. (a.request == b.request) ≡ false) (λ b. has_number b (filter p (a ∷ xs)) ≡ p b)
        (by_other (p a)) xs tells differ

-- two tests that agree at each of a list keep the same of it
agree_kept : (p q : Activity → Bool) (xs : List Activity) → AllByRecursion (λ a. p a ≡ q a) xs → filter (λ a. not (p a)) xs ≡ filter (λ a. not (q a)) xs
agree_kept p q [] all = refl
agree_kept p q (x ∷ xs) all =
    ap (λ t. cond (not t) (x ∷ filter (λ a. not (p a)) xs) (filter (λ a. not (p a)) xs)) all.0
    ∙ ap (λ l. cond (not (q x)) (x ∷ l) l) (agree_kept p q xs all.1)

-- what holds of each activity of a schedule holds of each that falls due
pub due_each : (P : Activity → Type 0) (now : ℕ) (s : ScheduleState) (due : List Activity) → AllByRecursion P s.activities → FallDue now s due → AllByRecursion P due
due_each P now s due all falls =
    recursion_from_All P due (All-permutation P (filter (is_due now) s.activities) due falls.all (All-from_recursion P (filter (is_due now) s.activities) (each_filtered P (is_due now) s.activities all)))

-- an activity of a schedule has the number of one that falls due exactly if it falls due itself
due_tells : (roll : Roll) (now : ℕ) (s : ScheduleState) (due : List Activity) → AllByRecursion (IsActivityOf roll) s.activities → IsSchedule s.activities → FallDue now s due
    → AllByRecursion (λ a. has_number a due ≡ is_due now a) s.activities
due_tells roll now s due all is falls =
    each_weaker (λ a. has_number a (filter (is_due now) s.activities) ≡ is_due now a) (λ a. has_number a due ≡ is_due now a)
    (λ a same. sym (list_any-IsPermutation (λ d. a.request == d.request) (filter (is_due now) s.activities) due falls.all) ∙ same) s.activities
    (number_tells roll (is_due now) s.activities all is.apart)

-- as the time goes on, the reports make the mirror of what is left
pub clock_follows : (roll : Roll) (now : ℕ) (s : ScheduleState) (reports : List Telemetry) → AllByRecursion (IsActivityOf roll) s.activities → IsSchedule s.activities → ClockReports now s reports
    → read_all roll (mirror_of s) reports ≡ mirror_of (after_due now s)
clock_follows roll now s reports all is makes =
    ap (read_all roll (mirror_of s)) makes.are
    ∙ due_read roll s.enabled makes.due (mirror_of s) (due_each (IsActivityOf roll) now s makes.due all makes.falls)
    ∙ same_mirror s.enabled _ _
    (filter-listed (λ l. not (is_among makes.due l)) s.activities
    ∙ ap (map listed) (agree_kept (λ a. has_number a makes.due) (is_due now) s.activities (due_tells roll now s makes.due all is makes.falls)))
