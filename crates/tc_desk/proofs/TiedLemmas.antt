-- The tie between book and link is kept by what the book hears.
use Rattle.std.proofs.Common.{◌≡◌, ℕ, ◌+◌, ◌≤◌, ◌==◌, Bool, true, false, if◌then◌else◌, Option, Some, None, List, [], ◌∷◌, ◌++◌, length, map, fold, refl, sym, ◌∙◌, ap, subst, append-nil, arith}
use Rattle.std.proofs.lemmas.Bool.Decides.{nat_tests}
use Rattle.std.specs.List.{list_any}
use Rattle.tc_types.specs.declared.history.places.Place.{Place}
use Rattle.tc_types.specs.declared.history.places.Place.TheVariants as place
use Rattle.tc_types.specs.declared.history.causes.Cause.{Cause}
use Rattle.tc_types.specs.declared.history.causes.Cause.TheVariants as cause
use Rattle.tc_types.specs.declared.requests.Request.{Request}
use Rattle.tc_types.specs.declared.requests.Command.{Command}
use Rattle.tc_types.specs.declared.requests.Command.TheVariants as command
use Rattle.tc_types.specs.declared.link.reports.Report.TheVariants as report
use Rattle.tc_types.specs.declared.link.reports.Telemetry.TheVariants as telemetry
use Rattle.tc_types.specs.declared.link.reports.Verification.{Verification}
use Rattle.tc_types.specs.declared.link.reports.Verification.TheVariants as verification
use Rattle.tc_types.specs.Lawful.{is_among, is_one_of, is_lawful, place_number}
use Rattle.tc_types.specs.Schedule.{ridden}
use Rattle.tc_types.specs.Stages.{stage_of_verification}
use Rattle.tc_fop.specs.declared.signals.Indication.TheVariants as signal
use Rattle.tc_world.specs.declared.events.LinkIndication.{LinkIndication}
use Rattle.tc_world.specs.declared.events.LinkIndication.TheVariants as said
use Rattle.tc_world.specs.Kept.{Each}
use Rattle.tc_world.specs.Telling.{leaves_said, sent_said}
use Rattle.tc_book.specs.declared.stamps.Stamp.{Stamp}
use Rattle.tc_book.specs.Book.{Book, place_in, stands, request_at, moved, want, row_of}
use Rattle.tc_book.specs.Places.{numbers_from}
use Rattle.tc_book.proofs.HistoryLemmas.{place_of-snoc}
use Rattle.tc_board.specs.Mirror.{MirrorState, is_listed_of}
use Rattle.tc_desk.specs.Commands.{activities_at}
use Rattle.tc_desk.specs.Effects.{tried, followed, tried_with, reported, is_completed, is_failed, inserted, deleted, removed, emptied, besides, besides_at, heard}
use Rattle.tc_desk.specs.Places.{gone_places, StandsAt}

-- ---- lists of requests

pub each_map : (P Q : ℕ → Type 0) (xs : List ℕ) → ((n : ℕ) → P n → Q n) → Each P xs → Each Q xs
each_map P Q [] f all = tt
each_map P Q (x ∷ xs) f all = (f x all.0, each_map P Q xs f all.1)

pub each_behind : (P : ℕ → Type 0) (xs ys : List ℕ) → Each P xs → Each P ys → Each P (xs ++ ys)
each_behind P [] ys all more = more
each_behind P (x ∷ xs) ys all more = (all.0, each_behind P xs ys all.1 more)

-- no request waits behind one
pub nothing_behind : (n : ℕ) (xs ys : List ℕ) → length xs ≤ 1 → xs ≡ n ∷ ys → ys ≡ []
nothing_behind n xs [] few e = refl
nothing_behind n xs (y ∷ ys) few e = let long : length xs ≡ length ys + 2 = ap length e ∙ omega arith in absurd (omega (arith, long, few))

abbrev pub Waits : Book → List ℕ → Type 0
Waits book ns = Each (StandsAt (place.Queued ∷ []) book) ns

abbrev pub Gone : Book → List ℕ → Type 0
Gone book ns = Each (StandsAt gone_places book) ns

-- ---- moves

-- where a request stands after a move
pub place_moved : (stamp : Stamp) (book : Book) (n : ℕ) (to : Place) (c : Cause) (m : ℕ)
    → place_in (moved stamp book (want n to c)) m ≡ (if n == m then Some to else place_in book m)
place_moved stamp book n to c m = place_of-snoc book.history (row_of stamp book.history (want n to c)) m

-- a move keeps a request among these places, if the moved one does not leave them
pub moved_keeps : (stamp : Stamp) (book : Book) (n : ℕ) (to : Place) (c : Cause) (good : List Place) (m : ℕ)
    → (StandsAt good book n → is_one_of good to ≡ true) → StandsAt good book m → StandsAt good (moved stamp book (want n to c)) m
moved_keeps stamp book n to c good m may stands = ap (is_among good) (place_moved stamp book n to c m) ∙ by_test (n == m) refl
  where
    by_test : (t : Bool) → (n == m) ≡ t → is_among good (if t then Some to else place_in book m) ≡ true
    by_test true e = let same : m ≡ n = grind (arith, nat_tests) in may (subst (StandsAt good book) same stands)
    by_test false e = stands

-- who is moved stands there
pub moved_there : (stamp : Stamp) (book : Book) (n : ℕ) (to : Place) (c : Cause) (good : List Place) → is_one_of good to ≡ true → StandsAt good (moved stamp book (want n to c)) n
moved_there stamp book n to c good h =
    let same : (n == n) ≡ true = grind (arith, nat_tests) in
    ap (is_among good) (place_moved stamp book n to c n ∙ ap (λ t. if t then Some to else place_in book n) same) ∙ h

-- one place: who stands there is among others as that place is
pub only : (q : Place) (good : List Place) (at : Option Place) → is_among (q ∷ []) at ≡ true → is_among good at ≡ is_one_of good q
only q good None h = cc
only q good (Some p) h =
    let e : place_number p ≡ place_number q = grind (arith, nat_tests) in
    ap (λ k. list_any (λ place. place_number place == k) good) e

pub tried_keeps : (stamp : Stamp) (book : Book) (n : ℕ) (q to : Place) (c : Cause) (good : List Place) (m : ℕ)
    → (is_one_of good q ≡ true → is_one_of good to ≡ true) → StandsAt good book m → StandsAt good (tried stamp book n (q ∷ []) to c) m
tried_keeps stamp book n q to c good m may stands = by_test (is_among (q ∷ []) (place_in book n)) refl
  where
    by_test : (t : Bool) → is_among (q ∷ []) (place_in book n) ≡ t → StandsAt good (if t then moved stamp book (want n to c) else book) m
    by_test true e = moved_keeps stamp book n to c good m (λ s. may (sym (only q good (place_in book n) e) ∙ s)) stands
    by_test false e = stands

pub tried_there : (stamp : Stamp) (book : Book) (n : ℕ) (q to : Place) (c : Cause) (good : List Place) → is_one_of good to ≡ true → StandsAt (q ∷ []) book n → StandsAt good (tried stamp book n (q ∷ []) to c) n
tried_there stamp book n q to c good h stands =
    subst (λ t. StandsAt good (if t then moved stamp book (want n to c) else book) n) (sym stands) (moved_there stamp book n to c good h)

-- ---- reports

-- a report moves no request that stands at Queued
queued_stays : (at : Option Place) (to : Place) → is_among (place.Queued ∷ []) at ≡ true → is_lawful at to cause.Report ≡ false
queued_stays at to here =
    rw (
      only place.Queued (place.Sent ∷ place.Confirmed ∷ place.Riding ∷ place.Scheduled ∷ place.Doubtful ∷ []) at here,
      only place.Queued (place.Accepted ∷ []) at here,
      only place.Queued (place.Started ∷ []) at here,
    ) refl

-- all that a report asks for is behind the sending
stage_gone : (v : Verification) → is_one_of gone_places (stage_of_verification v) ≡ true
stage_gone verification.Accepted = refl
stage_gone (verification.AcceptanceFailed code) = refl
stage_gone verification.Started = refl
stage_gone (verification.StartFailed code) = refl
stage_gone (verification.StepDone step) = refl
stage_gone (verification.StepFailed step code) = refl
stage_gone verification.Completed = refl
stage_gone (verification.CompletionFailed code) = refl

-- a report keeps a request among these places, if the one that it moves does not leave them
reported_keeps : (stamp : Stamp) (book : Book) (n : ℕ) (to : Place) (good : List Place) (m : ℕ)
    → (is_lawful (place_in book n) to cause.Report ≡ true → StandsAt good book n → is_one_of good to ≡ true) → StandsAt good book m → StandsAt good (reported stamp book n to) m
reported_keeps stamp book n to good m may stands = by_test (is_lawful (place_in book n) to cause.Report) refl
  where
    by_test : (t : Bool) → is_lawful (place_in book n) to cause.Report ≡ t → StandsAt good (if t then moved stamp book (want n to cause.Report) else book) m
    by_test true e = moved_keeps stamp book n to cause.Report good m (may e) stands
    by_test false e = stands

-- ---- who waits and who was sent

-- a request stays at Queued, and one that was sent does not return
pub record BothKept (old new : Book) : Type 0 where
  pub waits : (m : ℕ) → StandsAt (place.Queued ∷ []) old m → StandsAt (place.Queued ∷ []) new m
  pub sent : (m : ℕ) → StandsAt gone_places old m → StandsAt gone_places new m

same_kept : (book : Book) → BothKept book book
same_kept book = record { waits = λ m h. h; sent = λ m h. h }

pub then_kept : (a b c : Book) → BothKept a b → BothKept b c → BothKept a c
then_kept a b c first second = record { waits = λ m h. second.waits m (first.waits m h); sent = λ m h. second.sent m (first.sent m h) }

if_kept : (book after : Book) (t : Bool) → BothKept book after → BothKept book (if t then after else book)
if_kept book after true kept = kept
if_kept book after false kept = same_kept book

-- a move from any of these places
tried_from : (stamp : Stamp) (book : Book) (n : ℕ) (places : List Place) (to : Place) (c : Cause) (good : List Place) (m : ℕ)
    → (is_among places (place_in book n) ≡ true → StandsAt good book n → is_one_of good to ≡ true) → StandsAt good book m → StandsAt good (tried stamp book n places to c) m
tried_from stamp book n places to c good m may stands = by_test (is_among places (place_in book n)) refl
  where
    by_test : (t : Bool) → is_among places (place_in book n) ≡ t → StandsAt good (if t then moved stamp book (want n to c) else book) m
    by_test true e = moved_keeps stamp book n to c good m (may e) stands
    by_test false e = stands

-- one that is not from Queued, and goes to where those are that were sent
gone_kept : (stamp : Stamp) (book : Book) (n : ℕ) (places : List Place) (to : Place) (c : Cause) → is_one_of places place.Queued ≡ false → is_one_of gone_places to ≡ true
    → BothKept book (tried stamp book n places to c)
gone_kept stamp book n places to c out gone = record {
  waits = λ m. tried_from stamp book n places to c (place.Queued ∷ []) m (λ e here. let no : true ≡ false = sym e ∙ only place.Queued places (place_in book n) here ∙ out in cc);
  sent = λ m. tried_from stamp book n places to c gone_places m (λ e here. gone);
}

-- one from a place where neither stand
apart_kept : (stamp : Stamp) (book : Book) (n : ℕ) (q to : Place) (c : Cause) → is_one_of (place.Queued ∷ []) q ≡ false → is_one_of gone_places q ≡ false
    → BothKept book (tried stamp book n (q ∷ []) to c)
apart_kept stamp book n q to c waits sent = record {
  waits = λ m. tried_keeps stamp book n q to c (place.Queued ∷ []) m (λ h. let no : true ≡ false = sym h ∙ waits in cc);
  sent = λ m. tried_keeps stamp book n q to c gone_places m (λ h. let no : true ≡ false = sym h ∙ sent in cc);
}

-- activities that ride, or are to ride
pub follow_kept : (stamp : Stamp) (book : Book) (activities : List ℕ) (q to : Place) (c : Cause) → is_one_of (place.Queued ∷ []) q ≡ false → is_one_of gone_places q ≡ false
    → BothKept book (followed stamp book activities (q ∷ []) to c)
follow_kept stamp book [] q to c waits sent = same_kept book
follow_kept stamp book (n ∷ activities) q to c waits sent =
    let after : Book = tried stamp book n (q ∷ []) to c in
    then_kept book after (followed stamp after activities (q ∷ []) to c) (apart_kept stamp book n q to c waits sent) (follow_kept stamp after activities q to c waits sent)

-- ---- reports of commands of the schedule

removed_kept : (stamp : Stamp) (mirror : MirrorState) (book : Book) (n : ℕ) → BothKept book (removed stamp mirror book n)
removed_kept stamp mirror book n =
    if_kept book (tried stamp book n (place.Scheduled ∷ []) place.Deleted cause.Reset) (list_any (is_listed_of n) mirror.activities)
    (gone_kept stamp book n (place.Scheduled ∷ []) place.Deleted cause.Reset refl refl)

all_removed_kept : (stamp : Stamp) (mirror : MirrorState) (ns : List ℕ) (book : Book) → BothKept book (fold (removed stamp mirror) book ns)
all_removed_kept stamp mirror [] book = same_kept book
all_removed_kept stamp mirror (n ∷ ns) book =
    then_kept book (removed stamp mirror book n) (fold (removed stamp mirror) (removed stamp mirror book n) ns) (removed_kept stamp mirror book n) (all_removed_kept stamp mirror ns (removed stamp mirror book n))

-- one after the other, not from Queued, and to where those are that were sent
all_gone_kept : (stamp : Stamp) (book : Book) (activities : List ℕ) (places : List Place) (to : Place) (c : Cause) → is_one_of places place.Queued ≡ false → is_one_of gone_places to ≡ true
    → BothKept book (followed stamp book activities places to c)
all_gone_kept stamp book [] places to c out gone = same_kept book
all_gone_kept stamp book (n ∷ activities) places to c out gone =
    let after : Book = tried stamp book n places to c in
    then_kept book after (followed stamp after activities places to c) (gone_kept stamp book n places to c out gone) (all_gone_kept stamp after activities places to c out gone)

inserted_kept : (stamp : Stamp) (v : Verification) (activities : List ℕ) (book : Book) → BothKept book (inserted stamp v activities book)
inserted_kept stamp v activities book = by_tests (is_completed v) (is_failed v)
  where
    places : List Place
    places = place.Riding ∷ place.Doubtful ∷ []

    by_tests : (done fails : Bool) → BothKept book (if done then followed stamp book activities places place.Scheduled cause.Insert else (if fails then followed stamp book activities places place.Failed cause.Insert else book))
    by_tests true fails = all_gone_kept stamp book activities places place.Scheduled cause.Insert refl refl
    by_tests false true = all_gone_kept stamp book activities places place.Failed cause.Insert refl refl
    by_tests false false = same_kept book

besides_kept : (stamp : Stamp) (mirror : MirrorState) (v : Verification) (given : Command) (book : Book) → BothKept book (besides stamp mirror v given book)
besides_kept stamp mirror v (command.Plain service subtype) book = same_kept book
besides_kept stamp mirror v command.EnableSchedule book = same_kept book
besides_kept stamp mirror v command.DisableSchedule book = same_kept book
besides_kept stamp mirror v command.ResetSchedule book = if_kept book (emptied stamp mirror book) (is_completed v) (all_removed_kept stamp mirror (numbers_from 1 book.requests) book)
besides_kept stamp mirror v (command.InsertActivities rides) book = inserted_kept stamp v (map ridden rides) book
besides_kept stamp mirror v (command.DeleteActivity target) book =
    if_kept book (deleted stamp target book) (is_completed v) (gone_kept stamp book target (place.Riding ∷ place.Scheduled ∷ place.Doubtful ∷ []) place.Deleted cause.Delete refl refl)
besides_kept stamp mirror v (command.ShiftActivity target offset) book = same_kept book
besides_kept stamp mirror v (command.ShiftAll offset) book = same_kept book
besides_kept stamp mirror v command.SummarizeAll book = same_kept book

besides_at_kept : (stamp : Stamp) (mirror : MirrorState) (v : Verification) (request : Option Request) (book : Book) → BothKept book (besides_at stamp mirror v request book)
besides_at_kept stamp mirror v None book = same_kept book
besides_at_kept stamp mirror v (Some request) book = besides_kept stamp mirror v request.body.command book

reported_kept : (stamp : Stamp) (book : Book) (n : ℕ) (v : Verification) → BothKept book (reported stamp book n (stage_of_verification v))
reported_kept stamp book n v = record {
  waits = λ m. reported_keeps stamp book n (stage_of_verification v) (place.Queued ∷ []) m (λ lawful here. let no : true ≡ false = sym lawful ∙ queued_stays (place_in book n) (stage_of_verification v) here in cc);
  sent = λ m. reported_keeps stamp book n (stage_of_verification v) gone_places m (λ lawful here. stage_gone v);
}

told_kept : (stamp : Stamp) (mirror : MirrorState) (book : Book) (n : ℕ) (v : Verification) → BothKept book (besides_at stamp mirror v (request_at book n) (reported stamp book n (stage_of_verification v)))
told_kept stamp mirror book n v =
    then_kept book (reported stamp book n (stage_of_verification v)) (besides_at stamp mirror v (request_at book n) (reported stamp book n (stage_of_verification v)))
    (reported_kept stamp book n v) (besides_at_kept stamp mirror v (request_at book n) (reported stamp book n (stage_of_verification v)))

-- ---- an insert that is in doubt or given back, and its activities

doubted_kept : (stamp : Stamp) (book : Book) (n : ℕ) → BothKept book (tried_with stamp book n (place.Sent ∷ []) place.Doubtful cause.Doubt)
doubted_kept stamp book n = by_test (stands book n (place.Sent ∷ [])) refl
  where
    after : Book
    after = moved stamp book (want n place.Doubtful cause.Doubt)

    behind_it : Book
    behind_it = followed stamp after (activities_at book n) (place.Riding ∷ []) place.Doubtful cause.Doubt

    own : is_among (place.Sent ∷ []) (place_in book n) ≡ true → BothKept book after
    own e = record {
      waits = λ m. moved_keeps stamp book n place.Doubtful cause.Doubt (place.Queued ∷ []) m (λ s. let no : true ≡ false = sym s ∙ only place.Sent (place.Queued ∷ []) (place_in book n) e in cc);
      sent = λ m. moved_keeps stamp book n place.Doubtful cause.Doubt gone_places m (λ s. refl);
    }

    by_test : (t : Bool) → stands book n (place.Sent ∷ []) ≡ t → BothKept book (if t then behind_it else book)
    by_test true e = then_kept book after behind_it (own e) (follow_kept stamp after (activities_at book n) place.Riding place.Doubtful cause.Doubt refl refl)
    by_test false e = same_kept book

-- of one that is given back only that those that were sent do not return
given_back_kept : (stamp : Stamp) (book : Book) (n m : ℕ) → StandsAt gone_places book m → StandsAt gone_places (tried_with stamp book n (place.Queued ∷ []) place.Approved cause.GiveBack) m
given_back_kept stamp book n m h = by_test (stands book n (place.Queued ∷ [])) refl
  where
    after : Book
    after = moved stamp book (want n place.Approved cause.GiveBack)

    behind_it : Book
    behind_it = followed stamp after (activities_at book n) (place.Riding ∷ []) place.Approved cause.GiveBack

    own : is_among (place.Queued ∷ []) (place_in book n) ≡ true → StandsAt gone_places after m
    own e = moved_keeps stamp book n place.Approved cause.GiveBack gone_places m (λ s. let no : true ≡ false = sym s ∙ only place.Queued gone_places (place_in book n) e in cc) h

    rides : BothKept after behind_it
    rides = follow_kept stamp after (activities_at book n) place.Riding place.Approved cause.GiveBack refl refl

    by_test : (t : Bool) → stands book n (place.Queued ∷ []) ≡ t → StandsAt gone_places (if t then behind_it else book) m
    by_test true e = rides.sent m (own e)
    by_test false e = h

-- ---- what the book hears

abbrev pub BothTied : Book → List ℕ → List ℕ → Type 0
BothTied book waits sent = Waits book waits × Gone book sent

kept_both : (old new : Book) (waits sent : List ℕ) → BothKept old new → BothTied old waits sent → BothTied new waits (sent ++ [])
kept_both old new waits sent kept tied =
    (each_map _ _ waits kept.waits tied.0, subst (Gone new) (sym (append-nil sent)) (each_map _ _ sent kept.sent tied.1))

-- who waits alone, and who was sent, after one that waited was sent
sends_both : (stamp : Stamp) (book : Book) (n : ℕ) (sent : List ℕ) → BothTied book (n ∷ []) sent
    → BothTied (tried stamp book n (place.Queued ∷ []) place.Sent cause.Transmit) [] (sent ++ n ∷ [])
sends_both stamp book n sent tied =
    let after : Book = tried stamp book n (place.Queued ∷ []) place.Sent cause.Transmit in
    let still : Gone after sent = each_map _ _ sent (λ m. tried_keeps stamp book n place.Queued place.Sent cause.Transmit gone_places m (λ h. refl)) tied.1 in
    let fresh : Gone after (n ∷ []) = (tried_there stamp book n place.Queued place.Sent cause.Transmit gone_places refl tied.0.0, tt) in
    (tt, each_behind (StandsAt gone_places after) sent (n ∷ []) still fresh)

confirms_both : (stamp : Stamp) (book : Book) (n : ℕ) → BothKept book (tried stamp book n (place.Sent ∷ []) place.Confirmed cause.Confirm)
confirms_both stamp book n = record {
  waits = λ m. tried_keeps stamp book n place.Sent place.Confirmed cause.Confirm (place.Queued ∷ []) m (λ h. cc);
  sent = λ m. tried_keeps stamp book n place.Sent place.Confirmed cause.Confirm gone_places m (λ h. refl);
}

-- one indication: who waits and who was sent
pub hears_both : (stamp : Stamp) (mirror : MirrorState) (i : LinkIndication) (book : Book) (waits sent : List ℕ) → length (leaves_said i ++ waits) ≤ 1
    → BothTied book (leaves_said i ++ waits) sent → BothTied (heard stamp mirror book i) waits (sent ++ sent_said i)
hears_both stamp mirror (said.Farm v) book waits sent few tied = kept_both book book waits sent (same_kept book) tied
hears_both stamp mirror said.Lost book waits sent few tied = kept_both book book waits sent (same_kept book) tied
hears_both stamp mirror (said.Transmitted frame) book waits sent few tied = kept_both book book waits sent (same_kept book) tied
hears_both stamp mirror (said.Received (report.Word word)) book waits sent few tied = kept_both book book waits sent (same_kept book) tied
hears_both stamp mirror (said.Received (report.Telemetry (telemetry.Summary summary))) book waits sent few tied = kept_both book book waits sent (same_kept book) tied
hears_both stamp mirror (said.Received (report.Telemetry (telemetry.Verification v n identity))) book waits sent few tied =
    kept_both book (besides_at stamp mirror v (request_at book n) (reported stamp book n (stage_of_verification v))) waits sent (told_kept stamp mirror book n v) tied
hears_both stamp mirror (said.Fop (signal.Alert kind)) book waits sent few tied = kept_both book book waits sent (same_kept book) tied
hears_both stamp mirror (said.Fop signal.Started) book waits sent few tied = kept_both book book waits sent (same_kept book) tied
hears_both stamp mirror (said.Fop (signal.Confirmed n)) book waits sent few tied =
    kept_both book (tried stamp book n (place.Sent ∷ []) place.Confirmed cause.Confirm) waits sent (confirms_both stamp book n) tied
hears_both stamp mirror (said.Fop (signal.InDoubt n)) book waits sent few tied =
    kept_both book (tried_with stamp book n (place.Sent ∷ []) place.Doubtful cause.Doubt) waits sent (doubted_kept stamp book n) tied
hears_both stamp mirror (said.Fop (signal.GivenBack n)) book waits sent few tied =
    let after : Book = tried_with stamp book n (place.Queued ∷ []) place.Approved cause.GiveBack in
    let none : waits ≡ [] = nothing_behind n (n ∷ waits) waits few refl in
    (subst (Waits after) (sym none) tt, subst (Gone after) (sym (append-nil sent)) (each_map _ _ sent (given_back_kept stamp book n) tied.1))
hears_both stamp mirror (said.Fop (signal.Sent n)) book waits sent few tied =
    let none : waits ≡ [] = nothing_behind n (n ∷ waits) waits few refl in
    let alone : BothTied book (n ∷ []) sent = subst (λ l. BothTied book (n ∷ l) sent) none tied in
    subst (λ l. BothTied (tried stamp book n (place.Queued ∷ []) place.Sent cause.Transmit) l (sent ++ n ∷ [])) (sym none) (sends_both stamp book n sent alone)
