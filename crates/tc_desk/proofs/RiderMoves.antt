-- What the book hears leaves who rides where they ride, and no request changes its activities.
use Rattle.std.proofs.Common.{◌≡◌, ℕ, Bool, true, false, if◌then◌else◌, Option, Some, None, fold, List, [], ◌∷◌, map, refl, sym, ◌∙◌}
use Rattle.std.specs.List.{list_any}
use Rattle.tc_types.specs.declared.history.places.Place.{Place}
use Rattle.tc_types.specs.declared.history.places.Place.TheVariants as place
use Rattle.tc_types.specs.declared.history.causes.Cause.{Cause}
use Rattle.tc_types.specs.declared.history.causes.Cause.TheVariants as cause
use Rattle.tc_types.specs.declared.requests.Request.{Request}
use Rattle.tc_types.specs.declared.requests.Command.{Command}
use Rattle.tc_types.specs.declared.requests.Command.TheVariants as command
use Rattle.tc_types.specs.declared.link.reports.Report.{Report}
use Rattle.tc_types.specs.declared.link.reports.Report.TheVariants as report
use Rattle.tc_types.specs.declared.link.reports.Telemetry.TheVariants as telemetry
use Rattle.tc_types.specs.declared.link.reports.Verification.{Verification}
use Rattle.tc_types.specs.declared.link.reports.Verification.TheVariants as verification
use Rattle.tc_types.specs.Lawful.{is_one_of, is_lawful}
use Rattle.tc_types.specs.Schedule.{ridden}
use Rattle.tc_types.specs.Stages.{stage_of_verification}
use Rattle.tc_book.specs.declared.stamps.Stamp.{Stamp}
use Rattle.tc_book.specs.Book.{Book, place_in, stands, request_at, moved, want}
use Rattle.tc_book.specs.Places.{numbers_from}
use Rattle.tc_board.specs.Mirror.{MirrorState, is_listed_of}
use Rattle.tc_desk.specs.Commands.{activities_at}
use Rattle.tc_desk.specs.Effects.{tried, followed, tried_with, reported, is_completed, is_failed, inserted, deleted, removed, emptied, besides, besides_at, received}
use Rattle.tc_desk.specs.Places.{StandsAt}
use Rattle.tc_desk.specs.Riders.{riding_places}
use Rattle.tc_desk.proofs.TiedLemmas.{moved_keeps, only}

-- no request that rides leaves, and the requests are the same
pub record RidersKept (old new : Book) : Type 0 where
  pub requests : new.requests ≡ old.requests
  pub riders : (m : ℕ) → StandsAt riding_places old m → StandsAt riding_places new m

pub same_riders : (book : Book) → RidersKept book book
same_riders book = record { requests = refl; riders = λ m h. h }

pub then_riders : (a b c : Book) → RidersKept a b → RidersKept b c → RidersKept a c
then_riders a b c first second = record { requests = second.requests ∙ first.requests; riders = λ m h. second.riders m (first.riders m h) }

pub if_riders : (book after : Book) (t : Bool) → RidersKept book after → RidersKept book (if t then after else book)
if_riders book after true kept = kept
if_riders book after false kept = same_riders book

-- ---- moves

-- a move of a request that does not ride, or that goes to where those are that ride
pub moved_riders : (stamp : Stamp) (book : Book) (n : ℕ) (to : Place) (c : Cause) → (StandsAt riding_places book n → is_one_of riding_places to ≡ true) → RidersKept book (moved stamp book (want n to c))
moved_riders stamp book n to c may = record { requests = refl; riders = λ m. moved_keeps stamp book n to c riding_places m may }

-- one from a place where nobody rides
pub away_riders : (stamp : Stamp) (book : Book) (n : ℕ) (q to : Place) (c : Cause) → is_one_of riding_places q ≡ false → StandsAt (q ∷ []) book n → RidersKept book (moved stamp book (want n to c))
away_riders stamp book n q to c out here =
    moved_riders stamp book n to c (λ rides. let no : true ≡ false = sym rides ∙ only q riding_places (place_in book n) here ∙ out in cc)

tried_away : (stamp : Stamp) (book : Book) (n : ℕ) (q to : Place) (c : Cause) → is_one_of riding_places q ≡ false → RidersKept book (tried stamp book n (q ∷ []) to c)
tried_away stamp book n q to c out = by_test (stands book n (q ∷ [])) refl
  where
    by_test : (t : Bool) → stands book n (q ∷ []) ≡ t → RidersKept book (if t then moved stamp book (want n to c) else book)
    by_test true e = away_riders stamp book n q to c out e
    by_test false e = same_riders book

-- one to where those are that ride
tried_riding : (stamp : Stamp) (book : Book) (n : ℕ) (places : List Place) (to : Place) (c : Cause) → is_one_of riding_places to ≡ true → RidersKept book (tried stamp book n places to c)
tried_riding stamp book n places to c rides = if_riders book (moved stamp book (want n to c)) (stands book n places) (moved_riders stamp book n to c (λ h. rides))

-- activities that go there too
pub follow_riding : (stamp : Stamp) (book : Book) (activities : List ℕ) (places : List Place) (to : Place) (c : Cause) → is_one_of riding_places to ≡ true → RidersKept book (followed stamp book activities places to c)
follow_riding stamp book [] places to c rides = same_riders book
follow_riding stamp book (n ∷ activities) places to c rides =
    let after : Book = tried stamp book n places to c in
    then_riders book after (followed stamp after activities places to c) (tried_riding stamp book n places to c rides) (follow_riding stamp after activities places to c rides)

-- ---- reports

-- all that a report asks for is a place of those that ride
stage_rides : (v : Verification) → is_one_of riding_places (stage_of_verification v) ≡ true
stage_rides verification.Accepted = refl
stage_rides (verification.AcceptanceFailed code) = refl
stage_rides verification.Started = refl
stage_rides (verification.StartFailed code) = refl
stage_rides (verification.StepDone step) = refl
stage_rides (verification.StepFailed step code) = refl
stage_rides verification.Completed = refl
stage_rides (verification.CompletionFailed code) = refl

reported_riders : (stamp : Stamp) (book : Book) (n : ℕ) (v : Verification) → RidersKept book (reported stamp book n (stage_of_verification v))
reported_riders stamp book n v =
    if_riders book (moved stamp book (want n (stage_of_verification v) cause.Report)) (is_lawful (place_in book n) (stage_of_verification v) cause.Report)
    (moved_riders stamp book n (stage_of_verification v) cause.Report (λ h. stage_rides v))

removed_riders : (stamp : Stamp) (mirror : MirrorState) (book : Book) (n : ℕ) → RidersKept book (removed stamp mirror book n)
removed_riders stamp mirror book n =
    if_riders book (tried stamp book n (place.Scheduled ∷ []) place.Deleted cause.Reset) (list_any (is_listed_of n) mirror.activities)
    (tried_riding stamp book n (place.Scheduled ∷ []) place.Deleted cause.Reset refl)

all_removed_riders : (stamp : Stamp) (mirror : MirrorState) (ns : List ℕ) (book : Book) → RidersKept book (fold (removed stamp mirror) book ns)
all_removed_riders stamp mirror [] book = same_riders book
all_removed_riders stamp mirror (n ∷ ns) book =
    then_riders book (removed stamp mirror book n) (fold (removed stamp mirror) (removed stamp mirror book n) ns) (removed_riders stamp mirror book n) (all_removed_riders stamp mirror ns (removed stamp mirror book n))

inserted_riders : (stamp : Stamp) (v : Verification) (activities : List ℕ) (book : Book) → RidersKept book (inserted stamp v activities book)
inserted_riders stamp v activities book = by_tests (is_completed v) (is_failed v)
  where
    places : List Place
    places = place.Riding ∷ place.Doubtful ∷ []

    by_tests : (done fails : Bool) → RidersKept book (if done then followed stamp book activities places place.Scheduled cause.Insert else (if fails then followed stamp book activities places place.Failed cause.Insert else book))
    by_tests true fails = follow_riding stamp book activities places place.Scheduled cause.Insert refl
    by_tests false true = follow_riding stamp book activities places place.Failed cause.Insert refl
    by_tests false false = same_riders book

besides_riders : (stamp : Stamp) (mirror : MirrorState) (v : Verification) (given : Command) (book : Book) → RidersKept book (besides stamp mirror v given book)
besides_riders stamp mirror v (command.Plain service subtype) book = same_riders book
besides_riders stamp mirror v command.EnableSchedule book = same_riders book
besides_riders stamp mirror v command.DisableSchedule book = same_riders book
besides_riders stamp mirror v command.ResetSchedule book = if_riders book (emptied stamp mirror book) (is_completed v) (all_removed_riders stamp mirror (numbers_from 1 book.requests) book)
besides_riders stamp mirror v (command.InsertActivities rides) book = inserted_riders stamp v (map ridden rides) book
besides_riders stamp mirror v (command.DeleteActivity target) book =
    if_riders book (deleted stamp target book) (is_completed v) (tried_riding stamp book target (place.Riding ∷ place.Scheduled ∷ place.Doubtful ∷ []) place.Deleted cause.Delete refl)
besides_riders stamp mirror v (command.ShiftActivity target offset) book = same_riders book
besides_riders stamp mirror v (command.ShiftAll offset) book = same_riders book
besides_riders stamp mirror v command.SummarizeAll book = same_riders book

besides_at_riders : (stamp : Stamp) (mirror : MirrorState) (v : Verification) (request : Option Request) (book : Book) → RidersKept book (besides_at stamp mirror v request book)
besides_at_riders stamp mirror v None book = same_riders book
besides_at_riders stamp mirror v (Some request) book = besides_riders stamp mirror v request.body.command book

-- what came down
pub received_riders : (stamp : Stamp) (mirror : MirrorState) (book : Book) (item : Report) → RidersKept book (received stamp mirror book item)
received_riders stamp mirror book (report.Word word) = same_riders book
received_riders stamp mirror book (report.Telemetry (telemetry.Summary summary)) = same_riders book
received_riders stamp mirror book (report.Telemetry (telemetry.Verification v n identity)) =
    let after : Book = reported stamp book n (stage_of_verification v) in
    then_riders book after (besides_at stamp mirror v (request_at book n) after) (reported_riders stamp book n v) (besides_at_riders stamp mirror v (request_at book n) after)

-- ---- what the link tells of a request

-- a request that is sent, and one that is confirmed, do not ride
pub sent_riders : (stamp : Stamp) (book : Book) (n : ℕ) → RidersKept book (tried stamp book n (place.Queued ∷ []) place.Sent cause.Transmit)
sent_riders stamp book n = tried_away stamp book n place.Queued place.Sent cause.Transmit refl

pub confirmed_riders : (stamp : Stamp) (book : Book) (n : ℕ) → RidersKept book (tried stamp book n (place.Sent ∷ []) place.Confirmed cause.Confirm)
confirmed_riders stamp book n = tried_away stamp book n place.Sent place.Confirmed cause.Confirm refl

-- activities in doubt ride still
pub doubted_riders : (stamp : Stamp) (book : Book) (n : ℕ) → RidersKept book (tried_with stamp book n (place.Sent ∷ []) place.Doubtful cause.Doubt)
doubted_riders stamp book n =
    let after : Book = moved stamp book (want n place.Doubtful cause.Doubt) in
    let behind_it : Book = followed stamp after (activities_at book n) (place.Riding ∷ []) place.Doubtful cause.Doubt in
    if_riders book behind_it (stands book n (place.Sent ∷ []))
    (then_riders book after behind_it (moved_riders stamp book n place.Doubtful cause.Doubt (λ h. refl)) (follow_riding stamp after (activities_at book n) (place.Riding ∷ []) place.Doubtful cause.Doubt refl))
