-- Which requests a request names: they were entered before; and no entry changes what stands in a request, nor what flies of it.
use Rattle.std.proofs.Common.{◌≡◌, ◌≢◌, ℕ, zero, suc, ◌+◌, ◌-◌, ◌<◌, ◌≤◌, ◌==◌, Bool, true, false, if◌then◌else◌, Option, Some, None, List, [], ◌∷◌, ◌++◌, length, map, refl, ◌∙◌, ap, subst, arith}
use Rattle.std.specs.Prelude.{IsSomeAnd}
use Rattle.std.specs.List.{slice_get, AllByRecursion}
use Rattle.std.specs.Option.{option_map}
use Rattle.std.proofs.lemmas.List.{length-append}
use Rattle.std.proofs.lemmas.Bool.Decides.{nat_tests}
use Rattle.tc_types.specs.declared.link.activities.Activity.{Activity}
use Rattle.tc_types.specs.declared.requests.Request.{Request}
use Rattle.tc_types.specs.declared.requests.Form.{Form}
use Rattle.tc_types.specs.declared.requests.Origin.{Origin}
use Rattle.tc_types.specs.declared.requests.Body.{Body}
use Rattle.tc_types.specs.declared.requests.Command.{Command}
use Rattle.tc_types.specs.declared.requests.Command.TheVariants as command
use Rattle.tc_types.specs.declared.rides.Ride.{Ride}
use Rattle.tc_types.specs.declared.link.telecommands.Payload.{Payload}
use Rattle.tc_types.specs.declared.link.telecommands.ScheduleCommand.{ScheduleCommand}
use Rattle.tc_types.specs.declared.link.telecommands.ScheduleCommand.TheVariants as schedule
use Rattle.tc_types.specs.History.{AllAfter}
use Rattle.tc_types.specs.Schedule.{ridden, targets_of, is_insert, inserted}
use Rattle.tc_world.specs.Kept.{Each}
use Rattle.tc_book.specs.declared.stamps.Stamp.{Stamp}
use Rattle.tc_book.specs.Book.{Book, request_in, request_at, with_request}
use Rattle.tc_book.specs.Good.{IsGoodBook, IsGoodRequest}
use Rattle.tc_book.specs.Targets.{IsGoodTarget, is_bad_activity}
use Rattle.tc_book.proofs.RequestLemmas.{number_low, request_in-more}
use Rattle.tc_desk.specs.Commands.{activities_at, activities_in, activity_of, flown_activity, activities_of, both_of, flown_command, payload_of, task_of}
use Rattle.tc_desk.proofs.TiedLemmas.{each_map}

-- ---- who was entered before
-- so who was entered before stays
pub entered_keeps_request : (stamp : Stamp) (book : Book) (origin : Option Origin) (entry : Form) (n : ℕ) → n ≢ length book.requests + 1 → request_at (with_request stamp book origin entry) n ≡ request_at book n
entered_keeps_request stamp book origin entry n other = request_in-more book.requests _ n other

-- and so do its activities
pub entered_keeps_activities : (stamp : Stamp) (book : Book) (origin : Option Origin) (entry : Form) (n : ℕ) → n ≢ length book.requests + 1 → activities_at (with_request stamp book origin entry) n ≡ activities_at book n
entered_keeps_activities stamp book origin entry n other = ap activities_in (entered_keeps_request stamp book origin entry n other)

-- ---- lists of requests

-- what holds of any holds of each of these
pub each_any : (P : ℕ → Type 0) (xs : List ℕ) → ((n : ℕ) → P n) → Each P xs
each_any P [] any = tt
each_any P (x ∷ xs) any = (any x, each_any P xs any)

-- the same said of any list, and of one of requests
pub all_each : (P Q : ℕ → Type 0) (xs : List ℕ) → ((n : ℕ) → P n → Q n) → AllByRecursion P xs → Each Q xs
all_each P Q [] f all = tt
all_each P Q (x ∷ xs) f all = (f x all.0, all_each P Q xs f all.1)

-- ---- whom a request names

-- who is named stands in this list, so its number is none past the last
named_low : (requests : List Request) (given : Command) (m : ℕ) → IsSomeAnd (request_in requests m) (λ named. is_bad_activity given named ≡ false) → m ≤ length requests
named_low requests given m named = by_found (request_in requests m) refl named
  where
    by_found : (found : Option Request) → request_in requests m ≡ found → IsSomeAnd found (λ r. is_bad_activity given r ≡ false) → m ≤ length requests
    by_found None e there = absurd there
    by_found (Some r) e there = (number_low requests m r e).1

-- a request of a good list names only those that stand before it
targets_low : (before requests : List Request) (i : ℕ) (r : Request) → AllAfter IsGoodRequest before requests → slice_get requests i ≡ Some r → Each (λ (m : ℕ). m ≤ length before + i) (targets_of r.body.command)
targets_low before [] i r good found = cc
targets_low before (x ∷ requests) zero r good found =
    let same : x ≡ r = some_same found in
    let may : IsGoodRequest before r = subst (IsGoodRequest before) same good.0 in
    all_each (IsGoodTarget before r.body.command) (λ (m : ℕ). m ≤ length before + 0) (targets_of r.body.command) (λ m named. let low : m ≤ length before = named_low before r.body.command m named in omega (arith, low)) may.targets.each
  where
    some_same : {a b : Request} → ◌≡◌ {A = Option Request} (Some a) (Some b) → a ≡ b
    some_same e = cc
targets_low before (x ∷ requests) (suc i) r good found =
    let longer : length (before ++ x ∷ []) ≡ length before + 1 = length-append before (x ∷ []) in
    each_map _ _ (targets_of r.body.command) (λ m low. next m longer low) (targets_low (before ++ x ∷ []) requests i r good.1 found)
  where
    next : (m : ℕ) → length (before ++ x ∷ []) ≡ length before + 1 → m ≤ length (before ++ x ∷ []) + i → m ≤ length before + suc i
    next m longer low = omega (arith, longer, low)

-- the requests that a request names were entered before it
pub named_before : (book : Book) → IsGoodBook book → (n : ℕ) (r : Request) → request_at book n ≡ Some r → Each (λ (m : ℕ). m < n) (targets_of r.body.command)
named_before book good n r here = by_zero (n == 0) refl here
  where
    by_zero : (t : Bool) → (n == 0) ≡ t → (if t then None else slice_get book.requests (n - 1)) ≡ Some r → Each (λ (m : ℕ). m < n) (targets_of r.body.command)
    by_zero true e found = cc
    by_zero false e found =
        let some : n ≢ 0 = λ is. grind (arith, nat_tests) in
        each_map _ _ (targets_of r.body.command) (λ m low. less m some low) (targets_low [] book.requests (n - 1) r good.requests found)
      where
        less : (m : ℕ) → n ≢ 0 → m ≤ 0 + (n - 1) → m < n
        less m some low = omega (arith, low, some)

-- what an insert puts into the schedule is what it names
inserted_named : (P : ℕ → Type 0) (given : Command) → Each P (targets_of given) → Each P (inserted given)
inserted_named P given all = by_test (is_insert given)
  where
    by_test : (t : Bool) → Each P (if t then targets_of given else [])
    by_test true = all
    by_test false = tt

-- the activities of an insert were entered before it
pub activities_before : (book : Book) → IsGoodBook book → (n : ℕ) → Each (λ (m : ℕ). m < n) (activities_at book n)
activities_before book good n = by_found (request_at book n) refl
  where
    by_found : (found : Option Request) → request_at book n ≡ found → Each (λ (m : ℕ). m < n) (activities_in found)
    by_found None e = tt
    by_found (Some r) e = inserted_named (λ (m : ℕ). m < n) r.body.command (named_before book good n r e)

-- ---- one request more

-- what flies of these activities reads no other request
activities_stay : (a b : Book) (rides : List Ride) → Each (λ (m : ℕ). request_at a m ≡ request_at b m) (map ridden rides) → activities_of a rides ≡ activities_of b rides
activities_stay a b [] same = refl
activities_stay a b (ride ∷ rides) same =
    ap (λ found. both_of (option_map (λ target. activity_of target ride.time) found) (activities_of a rides)) same.0
    ∙ ap (λ others. both_of (flown_activity b ride) others) (activities_stay a b rides same.1)

-- what flies of a command reads no request but those that it names
pub flown_stays : (a b : Book) (given : Command) → Each (λ (m : ℕ). request_at a m ≡ request_at b m) (targets_of given) → flown_command a given ≡ flown_command b given
flown_stays a b (command.Plain service subtype) same = refl
flown_stays a b command.EnableSchedule same = refl
flown_stays a b command.DisableSchedule same = refl
flown_stays a b command.ResetSchedule same = refl
flown_stays a b (command.InsertActivities rides) same = ap (λ (activities : Option (List Activity)). option_map schedule.Insert activities) (activities_stay a b rides same)
flown_stays a b (command.DeleteActivity target) same = refl
flown_stays a b (command.ShiftActivity target offset) same = refl
flown_stays a b (command.ShiftAll offset) same = refl
flown_stays a b command.SummarizeAll same = refl

-- where all requests of a book stand in another, what flies of each is the same
pub same_payload : (a b : Book) → a.requests ≡ b.requests → (body : Body) → payload_of a body ≡ payload_of b body
same_payload a b same body =
    ap (λ (given : Option ScheduleCommand). payload_with given) (flown_stays a b body.command (each_any _ (targets_of body.command) (λ m. ap (λ requests. request_in requests m) same)))
  where
    payload_with : Option ScheduleCommand → Payload
    payload_with given = record { identity = body.identity; ack = body.ack; task = task_of body given }

-- who was entered before one that stands there stays
pub entered_keeps_before : (stamp : Stamp) (book : Book) (origin : Option Origin) (entry : Form) (n : ℕ) (r : Request) (m : ℕ) → request_at book n ≡ Some r → m < n
    → request_at (with_request stamp book origin entry) m ≡ request_at book m
entered_keeps_before stamp book origin entry n r m here before =
    let last : n ≤ length book.requests = (number_low book.requests n r here).1 in
    entered_keeps_request stamp book origin entry m (λ is. absurd (omega (arith, last, is, before)))

-- each request stays as it was entered, and what flies of it too
pub entered_payload : (stamp : Stamp) (origin : Option Origin) (entry : Form) (book : Book) (n : ℕ) (r : Request) → IsGoodBook book → request_at book n ≡ Some r
    → (request_at (with_request stamp book origin entry) n ≡ Some r) × (payload_of (with_request stamp book origin entry) r.body ≡ payload_of book r.body)
entered_payload stamp origin entry book n r good here =
    let low = number_low book.requests n r here in
    let last : n ≤ length book.requests = low.1 in
    let next : n ≢ length book.requests + 1 = λ is. absurd (omega (arith, last, is)) in
    (entered_keeps_request stamp book origin entry n next ∙ here, ap payload_with (flown_stays (with_request stamp book origin entry) book r.body.command named))
  where
    payload_with : Option ScheduleCommand → Payload
    payload_with given = record { identity = r.body.identity; ack = r.body.ack; task = task_of r.body given }

    named : Each (λ (m : ℕ). request_at (with_request stamp book origin entry) m ≡ request_at book m) (targets_of r.body.command)
    named = each_map _ _ (targets_of r.body.command) (λ m before. entered_keeps_before stamp book origin entry n r m here before) (named_before book good n r here)
