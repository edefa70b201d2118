-- A request that comes on board with what the book says of it is one as the desk releases it.
use Rattle.std.proofs.Common.{◌≡◌, ℕ, zero, suc, ◌+◌, ◌-◌, ◌==◌, Bool, true, false, not, ◌&&◌, ◌||◌, if◌then◌else◌, Option, Some, None, List, [], ◌∷◌, ◌++◌, length, map, refl, sym, ◌∙◌, ap, subst, append_assoc, arith}
use Rattle.std.specs.Prelude.{IsSomeAnd}
use Rattle.std.specs.List.{slice_get, list_any, AllByRecursion}
use Rattle.std.specs.Option.{option_map}
use Rattle.std.proofs.lemmas.List.{length-append}
use Rattle.std.proofs.lemmas.Bool.Decides.{nat_tests}
use Rattle.tc_types.specs.declared.link.activities.Activity.{Activity}
use Rattle.tc_types.specs.declared.requests.Body.{Body}
use Rattle.tc_types.specs.declared.requests.Command.{Command}
use Rattle.tc_types.specs.declared.requests.Command.TheVariants as command
use Rattle.tc_types.specs.declared.requests.Request.{Request}
use Rattle.tc_types.specs.declared.rides.Ride.{Ride}
use Rattle.tc_types.specs.declared.link.telecommands.Payload.{Payload}
use Rattle.tc_types.specs.declared.link.telecommands.ScheduleCommand.{ScheduleCommand}
use Rattle.tc_types.specs.declared.link.telecommands.ScheduleCommand.TheVariants as schedule
use Rattle.tc_types.specs.History.{AllAfter}
use Rattle.tc_types.specs.Schedule.{is_schedule, ridden, inserted as inserted_by}
use Rattle.tc_world.specs.Kept.{Each}
use Rattle.tc_world.specs.Payloads.{IsOneOf}
use Rattle.tc_board.specs.Follows.{IsActivityOf, command_in, inserted, IsRequestOf}
use Rattle.tc_board.specs.Names.{Knows}
use Rattle.tc_book.specs.Book.{Book, request_in, request_at}
use Rattle.tc_book.specs.Good.{IsGoodBook, IsGoodRequest}
use Rattle.tc_book.specs.Targets.{HasGoodTargets, IsGoodTarget, is_bad_activity}
use Rattle.tc_desk.specs.Asks.{telecommand_of}
use Rattle.tc_desk.specs.Commands.{activity_of, activities_of, both_of, flown_command, task_of, payload_of, command_of, activities_in, activities_at}
use Rattle.tc_desk.specs.Followed.{identity_in, roll_of, IsPayloadOf, IsFlown}
use Rattle.tc_desk.specs.Riders.{carried_by, NoneIsOf}
use Rattle.tc_desk.proofs.RollOfLemmas.{one_of_more, one_of_behind, none_both}

-- ---- requests of a good book

-- one of a good list is good behind those before it
good_at : (before requests : List Request) (i : ℕ) (r : Request) → AllAfter IsGoodRequest before requests → slice_get requests i ≡ Some r
    → (front : List Request) × (rest : List Request) × (before ++ requests ≡ front ++ rest) × (length front ≡ length before + i) × IsGoodRequest front r
good_at before [] i r good here = cc
good_at before (x ∷ requests) zero r good here =
    let same : x ≡ r = some_same here in
    (before, x ∷ requests, refl, omega arith, subst (IsGoodRequest before) same good.0)
  where
    some_same : {a b : Request} → ◌≡◌ {A = Option Request} (Some a) (Some b) → a ≡ b
    some_same e = cc
good_at before (x ∷ requests) (suc i) r good here =
    let inner = good_at (before ++ x ∷ []) requests i r good.1 here in
    let longer : length (before ++ x ∷ []) ≡ length before + 1 = length-append before (x ∷ []) in
    let far : length inner.0 ≡ length (before ++ x ∷ []) + i = inner.3 in
    (inner.0, inner.1, sym (append_assoc before (x ∷ []) requests) ∙ inner.2, omega (arith, longer, far), inner.4)

-- who stands in a front stands in the whole
slice_get_front : (xs ys : List Request) (i : ℕ) (r : Request) → slice_get xs i ≡ Some r → slice_get (xs ++ ys) i ≡ Some r
slice_get_front [] ys i r here = cc
slice_get_front (x ∷ xs) ys zero r here = here
slice_get_front (x ∷ xs) ys (suc i) r here = slice_get_front xs ys i r here

request_in_front : (xs ys : List Request) (n : ℕ) (r : Request) → request_in xs n ≡ Some r → request_in (xs ++ ys) n ≡ Some r
request_in_front xs ys n r here = by_zero (n == 0) here
  where
    by_zero : (t : Bool) → (if t then None else slice_get xs (n - 1)) ≡ Some r → (if t then None else slice_get (xs ++ ys) (n - 1)) ≡ Some r
    by_zero true found = cc
    by_zero false found = slice_get_front xs ys (n - 1) r found

-- A request of a good book has its own number, and whoever its command names is one that it may name.
pub record IsSoundIn (book : Book) (n : ℕ) (r : Request) : Type 0 where
  pub number : r.number ≡ n
  pub front : List Request
  pub rest : List Request
  pub whole : book.requests ≡ front ++ rest
  pub good : IsGoodRequest front r

pub sound_in : (book : Book) (n : ℕ) (r : Request) → IsGoodBook book → request_at book n ≡ Some r → IsSoundIn book n r
sound_in book n r good here = by_zero (n == 0) refl here
  where
    by_zero : (t : Bool) → (n == 0) ≡ t → (if t then None else slice_get book.requests (n - 1)) ≡ Some r → IsSoundIn book n r
    by_zero true e found = cc
    by_zero false e found =
        let at = good_at [] book.requests (n - 1) r good.requests found in
        let behind : length at.0 ≡ 0 + (n - 1) = at.3 in
        let number : r.number ≡ length at.0 + 1 = at.4.number in
        let some : (n == 0) ≡ false = e in
        let own : r.number ≡ n = grind (arith, nat_tests) in
        record { number = own; front = at.0; rest = at.1; whole = at.2; good = at.4 }

-- ---- an activity

-- a plain request flies as no command of the schedule
plain_flies : (book : Book) (given : Command) → is_schedule given ≡ false → flown_command book given ≡ None
plain_flies book (command.Plain service subtype) plain = refl
plain_flies book command.EnableSchedule plain = cc
plain_flies book command.DisableSchedule plain = cc
plain_flies book command.ResetSchedule plain = cc
plain_flies book (command.InsertActivities rides) plain = cc
plain_flies book (command.DeleteActivity target) plain = cc
plain_flies book (command.ShiftActivity target offset) plain = cc
plain_flies book (command.ShiftAll offset) plain = cc
plain_flies book command.SummarizeAll plain = cc

-- who asks not for its acceptance may not be inserted
asks_acceptance : (schedule acceptance : Bool) → (schedule || (true && not acceptance)) ≡ false → (schedule ≡ false) × (acceptance ≡ true)
asks_acceptance true acceptance fit = cc
asks_acceptance false true fit = (refl, refl)
asks_acceptance false false fit = cc

-- who is named by an insert among these is plain and asks for its acceptance
target_fits : (book : Book) (front rest : List Request) (rides : List Ride) (target : ℕ) (named : Request) → book.requests ≡ front ++ rest
    → IsGoodTarget front (command.InsertActivities rides) target → request_at book target ≡ Some named
    → (is_schedule named.body.command ≡ false) × (named.body.ack.acceptance ≡ true)
target_fits book front rest rides target named whole fit here = by_found (request_in front target) refl fit
  where
    some_same : {a b : Request} → ◌≡◌ {A = Option Request} (Some a) (Some b) → a ≡ b
    some_same e = cc

    by_found : (found : Option Request) → request_in front target ≡ found → IsSomeAnd found (λ r. is_bad_activity (command.InsertActivities rides) r ≡ false)
        → (is_schedule named.body.command ≡ false) × (named.body.ack.acceptance ≡ true)
    by_found None e there = absurd there
    by_found (Some r) e there =
        let same : r ≡ named = some_same (sym (request_in_front front rest target r e) ∙ ap (λ requests. request_in requests target) (sym whole) ∙ here) in
        asks_acceptance (is_schedule named.body.command) named.body.ack.acceptance (subst (λ (q : Request). is_bad_activity (command.InsertActivities rides) q ≡ false) same there)

-- the activities of one of these are carried
carries_all : (book : Book) (xs : List ℕ) (n : ℕ) (m : ℕ) → IsOneOf m (activities_at book n) → IsOneOf n xs → IsOneOf m (carried_by book xs)
carries_all book [] n m names one = cc
carries_all book (x ∷ xs) n m names one = by_test (x == n) refl one (carries_all book xs n m names)
  where
    by_test : (t : Bool) → (x == n) ≡ t → (t || list_any (λ (k : ℕ). k == n) xs) ≡ true → (IsOneOf n xs → IsOneOf m (carried_by book xs)) → IsOneOf m (activities_at book x ++ carried_by book xs)
    by_test true e h others =
        let same : n ≡ x = grind (arith, nat_tests) in one_of_more m (activities_at book x) (carried_by book xs) (subst (λ k. IsOneOf m (activities_at book k)) same names)
    by_test false e h others = one_of_behind m (activities_at book x) (carried_by book xs) (others h)

-- each of these is one of them
one_of_self : (all : List ℕ) (P : ℕ → Type 0) (xs : List ℕ) → ((m : ℕ) → IsOneOf m xs → IsOneOf m all) → ((m : ℕ) → IsOneOf m all → P m) → Each P xs
one_of_self all P [] among holds = tt
one_of_self all P (x ∷ xs) among holds =
    let same : (x == x) ≡ true = grind (arith, nat_tests) in
    (holds x (among x (ap (λ t. t || list_any (λ (m : ℕ). m == x) xs) same)), one_of_self all P xs (λ m one. among m (one_of_behind m (x ∷ []) xs one)) holds)

-- ---- a request

-- what is to stand in a command that flies: activities as the desk inserts them, of requests that ride
record AreActivities (book : Book) (sent : List ℕ) (given : List Activity) : Type 0 where
  pub are : AllByRecursion (IsActivityOf (roll_of book sent)) given
  pub flown : AllByRecursion (λ (a : Activity). IsFlown book sent a.request) given

-- one activity of an insert
activity_arrives : (book : Book) (sent : List ℕ) (target time : ℕ) (named : Request) → IsGoodBook book → request_at book target ≡ Some named
    → (is_schedule named.body.command ≡ false) × (named.body.ack.acceptance ≡ true)
    → IsOneOf target (carried_by book sent) → IsActivityOf (roll_of book sent) (activity_of named time) × IsFlown book sent named.number
activity_arrives book sent target time named good here fit carried =
    let number : named.number ≡ target = (sound_in book target named good here).number in
    let found : request_at book named.number ≡ Some named = ap (request_at book) number ∙ here in
    let rides : IsOneOf named.number (carried_by book sent) = subst (λ n. IsOneOf n (carried_by book sent)) (sym number) carried in
    let activity : IsActivityOf (roll_of book sent) (activity_of named time) = record {
      rides = rides;
      named = ap identity_in found;
      plain = ap (command_of book) found ∙ plain_flies book named.body.command fit.0;
      acknowledged = fit.1;
    } in
    (activity, one_of_behind named.number sent (carried_by book sent) rides)

-- what flies of an insert, where all of its activities do
abbrev AreIn : Book → List ℕ → Option (List Activity) → Type 0
AreIn book sent None = Unit {0}
AreIn book sent (Some given) = AreActivities book sent given

-- the activities of an insert, which stand among those of a whole insert
all_arrive : (book : Book) (sent : List ℕ) (front rest : List Request) (all rides : List Ride) → IsGoodBook book → book.requests ≡ front ++ rest
    → AllByRecursion (IsGoodTarget front (command.InsertActivities all)) (map ridden rides) → Each (λ (m : ℕ). IsOneOf m (carried_by book sent)) (map ridden rides)
    → AreIn book sent (activities_of book rides)
all_arrive book sent front rest all [] good whole fit carried = record { are = tt; flown = tt }
all_arrive book sent front rest all (ride ∷ rides) good whole fit carried = by_found (request_at book ride.target) refl (activities_of book rides) (all_arrive book sent front rest all rides good whole fit.1 carried.1)
  where
    by_found : (found : Option Request) → request_at book ride.target ≡ found → (others : Option (List Activity)) → AreIn book sent others
        → AreIn book sent (both_of (option_map (λ target. activity_of target ride.time) found) others)
    by_found None e others more = tt
    by_found (Some named) e None more = tt
    by_found (Some named) e (Some others) more =
        let one = activity_arrives book sent ride.target ride.time named good e (target_fits book front rest all ride.target named whole fit.0 e) carried.0 in
        record { are = (one.0, more.are); flown = (one.1, more.flown) }

-- the activities of a command that was sent
command_arrives : (book : Book) (sent : List ℕ) (n : ℕ) (r : Request) (given : Command) → IsGoodBook book → request_at book n ≡ Some r → r.body.command ≡ given → IsOneOf n sent → AreActivities book sent (inserted (flown_command book given))
command_arrives book sent n r (command.Plain service subtype) good here is one = record { are = tt; flown = tt }
command_arrives book sent n r command.EnableSchedule good here is one = record { are = tt; flown = tt }
command_arrives book sent n r command.DisableSchedule good here is one = record { are = tt; flown = tt }
command_arrives book sent n r command.ResetSchedule good here is one = record { are = tt; flown = tt }
command_arrives book sent n r (command.DeleteActivity target) good here is one = record { are = tt; flown = tt }
command_arrives book sent n r (command.ShiftActivity target offset) good here is one = record { are = tt; flown = tt }
command_arrives book sent n r (command.ShiftAll offset) good here is one = record { are = tt; flown = tt }
command_arrives book sent n r command.SummarizeAll good here is one = record { are = tt; flown = tt }
command_arrives book sent n r (command.InsertActivities rides) good here is one =
    let sound = sound_in book n r good here in
    let may = subst (HasGoodTargets sound.front) is sound.good.targets in
    let names : activities_at book n ≡ map ridden rides = ap activities_in here ∙ ap inserted_by is in
    let carried = one_of_self (map ridden rides) (λ (m : ℕ). IsOneOf m (carried_by book sent)) (map ridden rides) (λ m there. there) (λ m there. carries_all book sent n m (subst (IsOneOf m) (sym names) there) one) in
    by_flown (activities_of book rides) (all_arrive book sent sound.front sound.rest rides rides good sound.whole may.each carried)
  where
    by_flown : (flown : Option (List Activity)) → AreIn book sent flown → AreActivities book sent (inserted (option_map schedule.Insert flown))
    by_flown None are = record { are = tt; flown = tt }
    by_flown (Some given) are = are

-- the command of a task is what flies
task_command : (body : Body) (given : Option ScheduleCommand) → command_in (task_of body given) ≡ given
task_command body None = refl
task_command body (Some given) = refl

-- a request that was sent, and comes on board with what the book says of it: it is as the desk releases it, and flew
pub arrives : (book : Book) (sent : List ℕ) (n : ℕ) (body : Payload) → IsGoodBook book → NoneIsOf sent (carried_by book sent) → IsPayloadOf book n body → IsOneOf n sent
    → IsRequestOf (roll_of book sent) (telecommand_of n body) × Knows (IsFlown book sent) (telecommand_of n body)
arrives book sent n body good apart is one = subst (λ (b : Payload). IsRequestOf (roll_of book sent) (telecommand_of n b) × Knows (IsFlown book sent) (telecommand_of n b)) (sym is.2) (request, known)
  where
    r : Request
    r = is.0

    given : Option ScheduleCommand
    given = flown_command book r.body.command

    activities : AreActivities book sent (inserted given)
    activities = command_arrives book sent n r r.body.command good is.1 refl one

    request : IsRequestOf (roll_of book sent) (telecommand_of n (payload_of book r.body))
    request = record {
      flies = none_both n sent (carried_by book sent) apart one;
      command = ap (command_of book) is.1 ∙ sym (task_command r.body given);
      inserts = subst (λ o. AllByRecursion (IsActivityOf (roll_of book sent)) (inserted o)) (sym (task_command r.body given)) activities.are;
    }

    known : Knows (IsFlown book sent) (telecommand_of n (payload_of book r.body))
    known = record {
      request = one_of_more n sent (carried_by book sent) one;
      inserts = subst (λ o. AllByRecursion (λ (a : Activity). IsFlown book sent a.request) (inserted o)) (sym (task_command r.body given)) activities.flown;
    }
