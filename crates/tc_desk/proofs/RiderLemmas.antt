-- Who flies on its own and who rides inside an insert stay apart, whatever the book hears.
use Rattle.std.proofs.Common.{◌≡◌, ◌≢◌, ℕ, ◌+◌, ◌<◌, ◌≤◌, ◌==◌, Bool, true, false, if◌then◌else◌, Option, Some, None, List, [], ◌∷◌, ◌++◌, length, refl, sym, ◌∙◌, ap, subst, append-nil, arith}
use Rattle.std.specs.List.{list_any, flat_map}
use Rattle.std.proofs.lemmas.Bool.{or_parts, or_from}
use Rattle.std.proofs.lemmas.Bool.Decides.{nat_tests}
use Rattle.std.proofs.lemmas.Grind.{flat_map-append}
use Rattle.std.proofs.lemmas.List.Folds.{list_any-append}
use Rattle.tc_types.specs.declared.history.places.Place.{Place}
use Rattle.tc_types.specs.declared.history.places.Place.TheVariants as place
use Rattle.tc_types.specs.declared.history.causes.Cause.{Cause}
use Rattle.tc_types.specs.declared.history.causes.Cause.TheVariants as cause
use Rattle.tc_types.specs.declared.requests.Form.{Form}
use Rattle.tc_types.specs.declared.requests.Origin.{Origin}
use Rattle.tc_types.specs.declared.acts.LinkAct.TheVariants as link_act
use Rattle.tc_types.specs.Lawful.{is_among, is_one_of}
use Rattle.tc_fop.specs.declared.signals.Indication.TheVariants as signal
use Rattle.tc_world.specs.declared.events.LinkIndication.{LinkIndication}
use Rattle.tc_world.specs.declared.events.LinkIndication.TheVariants as said
use Rattle.tc_world.specs.Kept.{Each}
use Rattle.tc_world.specs.Telling.{leaves_said, sent_said}
use Rattle.tc_book.specs.declared.stamps.Stamp.{Stamp}
use Rattle.tc_book.specs.Book.{Book, place_in, stands, request_in, moved, want, with_request}
use Rattle.tc_book.specs.Good.{IsGoodBook}
use Rattle.tc_book.proofs.GoodLemmas.{next_nowhere}
use Rattle.tc_book.proofs.PassingLemmas.{not_false}
use Rattle.tc_board.specs.Mirror.{MirrorState}
use Rattle.tc_desk.specs.Acts.{released}
use Rattle.tc_desk.specs.Commands.{activities_at, activities_in, may_not_ride}
use Rattle.tc_desk.specs.Effects.{tried, followed, tried_with, heard}
use Rattle.tc_desk.specs.Places.{gone_places, StandsAt}
use Rattle.tc_desk.specs.Riders.{riding_places, carried_by, NoneIsOf, AreApart}
use Rattle.tc_desk.proofs.TiedLemmas.{each_map, each_behind, nothing_behind, place_moved, only, moved_there, tried_keeps, Waits, Gone}
use Rattle.tc_desk.proofs.PlaceLemmas.{none_of, any_behind, among_others}
use Rattle.tc_desk.proofs.TargetLemmas.{entered_keeps_activities}
use Rattle.tc_desk.proofs.RiderMoves.{RidersKept, then_riders, away_riders, follow_riding, received_riders, sent_riders, confirmed_riders, doubted_riders}

-- ---- lists of requests

each_of_two : (P Q R : ℕ → Type 0) (xs : List ℕ) → ((n : ℕ) → P n → Q n → R n) → Each P xs → Each Q xs → Each R xs
each_of_two P Q R [] f all more = tt
each_of_two P Q R (x ∷ xs) f all more = (f x all.0 more.0, each_of_two P Q R xs f all.1 more.1)

-- of those that m is none of
each_other : (P Q : ℕ → Type 0) (m : ℕ) (xs : List ℕ) → list_any (λ (k : ℕ). k == m) xs ≡ false → ((n : ℕ) → (m == n) ≡ false → P n → Q n) → Each P xs → Each Q xs
each_other P Q m [] none f all = tt
each_other P Q m (x ∷ xs) none f all =
    let parts = or_parts (x == m) (list_any (λ (k : ℕ). k == m) xs) none in
    let apart : (x == m) ≡ false = parts.0 in
    let other : (m == x) ≡ false = grind (arith, nat_tests) in
    (f x other all.0, each_other P Q m xs parts.1 f all.1)

-- who is none of these and those is none of these
first_none : (test : ℕ → Bool) (xs ys : List ℕ) → list_any test (xs ++ ys) ≡ false → list_any test xs ≡ false
first_none test xs ys none = (or_parts (list_any test xs) (list_any test ys) (sym (list_any-append test xs ys) ∙ none)).0

second_none : (test : ℕ → Bool) (xs ys : List ℕ) → list_any test (xs ++ ys) ≡ false → list_any test ys ≡ false
second_none test xs ys none = (or_parts (list_any test xs) (list_any test ys) (sym (list_any-append test xs ys) ∙ none)).1

-- ---- who is carried

-- by a book with the same requests
pub same_carried : (old new : Book) (xs : List ℕ) → new.requests ≡ old.requests → carried_by new xs ≡ carried_by old xs
same_carried old new xs same = ap (λ requests. flat_map (λ n. activities_in (request_in requests n)) xs) same

-- where each of these has the same activities
carried_alike : (old new : Book) (xs : List ℕ) → Each (λ n. activities_at new n ≡ activities_at old n) xs → carried_by new xs ≡ carried_by old xs
carried_alike old new [] all = refl
carried_alike old new (x ∷ xs) all = ap (λ l. l ++ carried_by new xs) all.0 ∙ ap (λ l. activities_at old x ++ l) (carried_alike old new xs all.1)

pub carried_append : (book : Book) (xs ys : List ℕ) → carried_by book (xs ++ ys) ≡ carried_by book xs ++ carried_by book ys
carried_append book xs ys = flat_map-append (activities_at book) xs ys

-- by one alone
pub carried_alone : (book : Book) (n : ℕ) → carried_by book (n ∷ []) ≡ activities_at book n
carried_alone book n = append-nil (activities_at book n)

-- they are apart in another book too, where the same are carried and each of them rides still
pub apart_stays : (old new : Book) (waits sent : List ℕ) → carried_by new waits ≡ carried_by old waits → carried_by new sent ≡ carried_by old sent
    → ((m : ℕ) → StandsAt riding_places old m → StandsAt riding_places new m) → AreApart old waits sent → AreApart new waits sent
apart_stays old new waits sent same_waits same_sent kept apart = record {
  riders = subst (Each (StandsAt riding_places new)) (sym same_sent) (each_map _ _ (carried_by old sent) kept apart.riders);
  next_riders = subst (Each (StandsAt riding_places new)) (sym same_waits) (each_map _ _ (carried_by old waits) kept apart.next_riders);
  apart = subst (NoneIsOf sent) (sym same_sent) apart.apart;
  next_apart = subst (λ l. NoneIsOf (sent ++ l) (carried_by new waits)) (sym same_sent) (subst (NoneIsOf (sent ++ carried_by old sent)) (sym same_waits) apart.next_apart);
}

kept_apart : (old new : Book) (waits sent : List ℕ) → RidersKept old new → AreApart old waits sent → AreApart new waits sent
kept_apart old new waits sent kept apart = apart_stays old new waits sent (same_carried old new waits kept.requests) (same_carried old new sent kept.requests) kept.riders apart

-- where nobody waits any more
alone_apart : (old new : Book) (waits sent : List ℕ) → new.requests ≡ old.requests → Each (StandsAt riding_places new) (carried_by old sent) → AreApart old waits sent → AreApart new [] sent
alone_apart old new waits sent same riders apart = record {
  riders = subst (Each (StandsAt riding_places new)) (sym (same_carried old new sent same)) riders;
  next_riders = tt;
  apart = subst (NoneIsOf sent) (sym (same_carried old new sent same)) apart.apart;
  next_apart = tt;
}

-- ---- a request that leaves the wait queue

-- who rides is not who stands where nobody rides
is_other : (book : Book) (n c : ℕ) (q : Place) → StandsAt (q ∷ []) book n → is_one_of riding_places q ≡ false → StandsAt riding_places book c → (n == c) ≡ false
is_other book n c q here out rides = by_test (n == c) refl
  where
    by_test : (t : Bool) → (n == c) ≡ t → t ≡ false
    by_test false e = refl
    by_test true e =
        let same : c ≡ n = grind (arith, nat_tests) in
        let no : true ≡ false = sym (subst (StandsAt riding_places book) same rides) ∙ only q riding_places (place_in book n) here ∙ out in cc

-- one that is sent: what it carries is none of those that were sent, nor it itself
handed_apart : (book : Book) (n : ℕ) (sent : List ℕ) → StandsAt (place.Queued ∷ []) book n → AreApart book (n ∷ []) sent → AreApart book [] (sent ++ n ∷ [])
handed_apart book n sent here apart = record {
  riders = subst (Each (StandsAt riding_places book)) (sym all) (each_behind (StandsAt riding_places book) (carried_by book sent) (carried_by book (n ∷ [])) apart.riders apart.next_riders);
  next_riders = tt;
  apart = subst (NoneIsOf (sent ++ n ∷ [])) (sym all) (each_behind (λ (c : ℕ). list_any (λ (m : ℕ). m == c) (sent ++ n ∷ []) ≡ false) (carried_by book sent) (carried_by book (n ∷ []))
      (each_of_two _ _ _ (carried_by book sent) none apart.apart apart.riders)
      (each_of_two _ _ _ (carried_by book (n ∷ [])) (λ c h. none c (first_none (λ (m : ℕ). m == c) sent (carried_by book sent) h)) apart.next_apart apart.next_riders));
  next_apart = tt;
}
  where
    all : carried_by book (sent ++ n ∷ []) ≡ carried_by book sent ++ carried_by book (n ∷ [])
    all = carried_append book sent (n ∷ [])

    none : (c : ℕ) → list_any (λ (m : ℕ). m == c) sent ≡ false → StandsAt riding_places book c → list_any (λ (m : ℕ). m == c) (sent ++ n ∷ []) ≡ false
    none c h rides = any_behind (λ (m : ℕ). m == c) sent (n ∷ []) h (or_from (n == c) false (is_other book n c place.Queued here refl rides) refl)

-- a move of another request
moved_other : (stamp : Stamp) (book : Book) (n : ℕ) (to : Place) (c : Cause) (good : List Place) (m : ℕ) → (n == m) ≡ false → StandsAt good book m → StandsAt good (moved stamp book (want n to c)) m
moved_other stamp book n to c good m other stands =
    ap (is_among good) (place_moved stamp book n to c m ∙ ap (λ t. if t then Some to else place_in book m) other) ∙ stands

tried_other : (stamp : Stamp) (book : Book) (n : ℕ) (places : List Place) (to : Place) (c : Cause) (good : List Place) (m : ℕ) → (n == m) ≡ false → StandsAt good book m → StandsAt good (tried stamp book n places to c) m
tried_other stamp book n places to c good m other here = by_test (stands book n places)
  where
    by_test : (t : Bool) → StandsAt good (if t then moved stamp book (want n to c) else book) m
    by_test true = moved_other stamp book n to c good m other here
    by_test false = here

-- these ride still, where the activities that go back are none of them
follow_others : (stamp : Stamp) (book : Book) (activities : List ℕ) (places : List Place) (to : Place) (c : Cause) (sent xs : List ℕ)
    → NoneIsOf (sent ++ xs) activities → Each (StandsAt riding_places book) xs
    → ((followed stamp book activities places to c).requests ≡ book.requests) × Each (StandsAt riding_places (followed stamp book activities places to c)) xs
follow_others stamp book [] places to c sent xs none all = (refl, all)
follow_others stamp book (m ∷ activities) places to c sent xs none all =
    let after : Book = tried stamp book m places to c in
    let still : Each (StandsAt riding_places after) xs = each_other _ _ m xs (second_none (λ (k : ℕ). k == m) sent xs none.0) (λ n other. tried_other stamp book m places to c riding_places n other) all in
    let others = follow_others stamp after activities places to c sent xs none.1 still in
    (others.0 ∙ requests_stay (stands book m places), others.1)
  where
    requests_stay : (t : Bool) → (if t then moved stamp book (want m to c) else book).requests ≡ book.requests
    requests_stay true = refl
    requests_stay false = refl

-- one that is given back: its activities are none of those that ride in others
given_back_apart : (stamp : Stamp) (book : Book) (n : ℕ) (sent : List ℕ) → AreApart book (n ∷ []) sent → AreApart (tried_with stamp book n (place.Queued ∷ []) place.Approved cause.GiveBack) [] sent
given_back_apart stamp book n sent apart = by_test (stands book n (place.Queued ∷ [])) refl
  where
    after : Book
    after = moved stamp book (want n place.Approved cause.GiveBack)

    behind_it : Book
    behind_it = followed stamp after (activities_at book n) (place.Riding ∷ []) place.Approved cause.GiveBack

    by_test : (t : Bool) → stands book n (place.Queued ∷ []) ≡ t → AreApart (if t then behind_it else book) [] sent
    by_test true e =
        let own = away_riders stamp book n place.Queued place.Approved cause.GiveBack refl e in
        let others = follow_others stamp after (activities_at book n) (place.Riding ∷ []) place.Approved cause.GiveBack sent (carried_by book sent) (subst (NoneIsOf (sent ++ carried_by book sent)) (carried_alone book n) apart.next_apart) (each_map _ _ (carried_by book sent) own.riders apart.riders) in
        alone_apart book behind_it (n ∷ []) sent (others.0 ∙ own.requests) others.1 apart
    by_test false e = alone_apart book book (n ∷ []) sent refl apart.riders apart

-- ---- what the book hears

-- what the book hears keeps them apart
pub hears_apart : (stamp : Stamp) (mirror : MirrorState) (i : LinkIndication) (book : Book) (waits sent : List ℕ)
    → length (leaves_said i ++ waits) ≤ 1 → Waits book (leaves_said i ++ waits) → Gone book sent
    → AreApart book (leaves_said i ++ waits) sent
    → AreApart (heard stamp mirror book i) waits (sent ++ sent_said i)
hears_apart stamp mirror (said.Farm v) book waits sent few w g apart = subst (AreApart book waits) (sym (append-nil sent)) apart
hears_apart stamp mirror said.Lost book waits sent few w g apart = subst (AreApart book waits) (sym (append-nil sent)) apart
hears_apart stamp mirror (said.Transmitted frame) book waits sent few w g apart = subst (AreApart book waits) (sym (append-nil sent)) apart
hears_apart stamp mirror (said.Received item) book waits sent few w g apart =
    subst (AreApart (heard stamp mirror book (said.Received item)) waits) (sym (append-nil sent)) (kept_apart book (heard stamp mirror book (said.Received item)) waits sent (received_riders stamp mirror book item) apart)
hears_apart stamp mirror (said.Fop (signal.Alert kind)) book waits sent few w g apart = subst (AreApart book waits) (sym (append-nil sent)) apart
hears_apart stamp mirror (said.Fop signal.Started) book waits sent few w g apart = subst (AreApart book waits) (sym (append-nil sent)) apart
hears_apart stamp mirror (said.Fop (signal.Confirmed n)) book waits sent few w g apart =
    let after : Book = tried stamp book n (place.Sent ∷ []) place.Confirmed cause.Confirm in
    subst (AreApart after waits) (sym (append-nil sent)) (kept_apart book after waits sent (confirmed_riders stamp book n) apart)
hears_apart stamp mirror (said.Fop (signal.InDoubt n)) book waits sent few w g apart =
    let after : Book = tried_with stamp book n (place.Sent ∷ []) place.Doubtful cause.Doubt in
    subst (AreApart after waits) (sym (append-nil sent)) (kept_apart book after waits sent (doubted_riders stamp book n) apart)
hears_apart stamp mirror (said.Fop (signal.GivenBack n)) book waits sent few w g apart =
    let after : Book = tried_with stamp book n (place.Queued ∷ []) place.Approved cause.GiveBack in
    let none : waits ≡ [] = nothing_behind n (n ∷ waits) waits few refl in
    let alone : AreApart book (n ∷ []) sent = subst (λ l. AreApart book (n ∷ l) sent) none apart in
    subst (λ l. AreApart after l (sent ++ [])) (sym none) (subst (AreApart after []) (sym (append-nil sent)) (given_back_apart stamp book n sent alone))
hears_apart stamp mirror (said.Fop (signal.Sent n)) book waits sent few w g apart =
    let after : Book = tried stamp book n (place.Queued ∷ []) place.Sent cause.Transmit in
    let none : waits ≡ [] = nothing_behind n (n ∷ waits) waits few refl in
    let alone : AreApart book (n ∷ []) sent = subst (λ l. AreApart book (n ∷ l) sent) none apart in
    subst (λ l. AreApart after l (sent ++ n ∷ [])) (sym none) (kept_apart book after [] (sent ++ n ∷ []) (sent_riders stamp book n) (handed_apart book n sent w.0 alone))

-- ---- a release

-- where an activity stands that is about to ride, or rides
abbrev boarding_places : List Place
boarding_places = place.Approved ∷ riding_places

-- where none may not ride, each is approved
all_approved : (book : Book) (activities : List ℕ) → list_any (may_not_ride book) activities ≡ false → Each (StandsAt (place.Approved ∷ []) book) activities
all_approved book [] may = tt
all_approved book (m ∷ activities) may =
    let parts = or_parts (may_not_ride book m) (list_any (may_not_ride book) activities) may in (not_false _ parts.0, all_approved book activities parts.1)

-- these ride once each of them was moved that was approved
all_ride : (stamp : Stamp) (book : Book) (activities : List ℕ) → Each (StandsAt boarding_places book) activities
    → Each (StandsAt riding_places (followed stamp book activities (place.Approved ∷ []) place.Riding cause.Release)) activities
all_ride stamp book [] all = tt
all_ride stamp book (m ∷ activities) all =
    (others.riders m first, all_ride stamp after activities (each_map _ _ activities (λ k. tried_keeps stamp book m place.Approved place.Riding cause.Release boarding_places k (λ h. refl)) all.1))
  where
    after : Book
    after = tried stamp book m (place.Approved ∷ []) place.Riding cause.Release

    others : RidersKept after (followed stamp after activities (place.Approved ∷ []) place.Riding cause.Release)
    others = follow_riding stamp after activities (place.Approved ∷ []) place.Riding cause.Release refl

    first : StandsAt riding_places after m
    first = by_test (stands book m (place.Approved ∷ [])) refl
      where
        by_test : (t : Bool) → stands book m (place.Approved ∷ []) ≡ t → StandsAt riding_places (if t then moved stamp book (want m place.Riding cause.Release) else book) m
        by_test true e = moved_there stamp book m place.Riding cause.Release riding_places refl
        by_test false e = among_others place.Approved riding_places (place_in book m) all.0 e

-- the activities of a request that is released ride: each is approved, and not the request itself
next_rides : (stamp : Stamp) (book : Book) (n : ℕ) (activities : List ℕ) → list_any (may_not_ride book) activities ≡ false → Each (λ (m : ℕ). m < n) activities
    → Each (StandsAt riding_places (followed stamp (moved stamp book (want n place.Queued cause.Release)) activities (place.Approved ∷ []) place.Riding cause.Release)) activities
next_rides stamp book n activities may before =
    all_ride stamp (moved stamp book (want n place.Queued cause.Release)) activities (each_of_two _ _ _ activities still before (all_approved book activities may))
  where
    still : (m : ℕ) → m < n → StandsAt (place.Approved ∷ []) book m → StandsAt boarding_places (moved stamp book (want n place.Queued cause.Release)) m
    still m low here =
        let other : (n == m) ≡ false = grind (arith, nat_tests) in
        moved_other stamp book n place.Queued cause.Release boarding_places m other (only place.Approved boarding_places (place_in book m) here)

-- who is approved was not sent, and does not ride
next_is_apart : (book : Book) (activities : List ℕ) (sent carried : List ℕ) → list_any (may_not_ride book) activities ≡ false → Gone book sent → Each (StandsAt riding_places book) carried
    → NoneIsOf (sent ++ carried) activities
next_is_apart book activities sent carried may gone riders = each_map _ _ activities none (all_approved book activities may)
  where
    none : (m : ℕ) → StandsAt (place.Approved ∷ []) book m → list_any (λ (k : ℕ). k == m) (sent ++ carried) ≡ false
    none m here =
        any_behind (λ (k : ℕ). k == m) sent carried
        (none_of gone_places book m sent (only place.Approved gone_places (place_in book m) here) gone)
        (none_of riding_places book m carried (only place.Approved riding_places (place_in book m) here) riders)

-- a request that is released is the one that waits
pub released_apart : (stamp : Stamp) (book : Book) (n : ℕ) (sent : List ℕ) → Each (λ (m : ℕ). m < n) (activities_at book n)
    → StandsAt (place.Approved ∷ []) book n → list_any (may_not_ride book) (activities_at book n) ≡ false → Gone book sent
    → AreApart book [] sent
    → AreApart (released stamp (link_act.Release n) book) (n ∷ []) sent
released_apart stamp book n sent before here may gone apart = record {
  riders = still.riders;
  next_riders = subst (Each (StandsAt riding_places new)) (sym next) (next_rides stamp book n (activities_at book n) may before);
  apart = still.apart;
  next_apart =
      subst (λ l. NoneIsOf (sent ++ l) (carried_by new (n ∷ []))) (sym (same_carried book new sent kept.requests))
      (subst (NoneIsOf (sent ++ carried_by book sent)) (sym next) (next_is_apart book (activities_at book n) sent (carried_by book sent) may gone apart.riders));
}
  where
    after : Book
    after = moved stamp book (want n place.Queued cause.Release)

    new : Book
    new = released stamp (link_act.Release n) book

    kept : RidersKept book new
    kept = then_riders book after new (away_riders stamp book n place.Approved place.Queued cause.Release refl here) (follow_riding stamp after (activities_at book n) (place.Approved ∷ []) place.Riding cause.Release refl)

    still : AreApart new [] sent
    still = kept_apart book new [] sent kept apart

    next : carried_by new (n ∷ []) ≡ activities_at book n
    next = same_carried book new (n ∷ []) kept.requests ∙ carried_alone book n

-- ---- one request more

-- who stands somewhere is not the next request, so an entry leaves its activities
pub entered_carried : (stamp : Stamp) (book : Book) (origin : Option Origin) (entry : Form) (good : List Place) (xs : List ℕ) → IsGoodBook book → Each (StandsAt good book) xs
    → carried_by (with_request stamp book origin entry) xs ≡ carried_by book xs
entered_carried stamp book origin entry good xs is_good all =
    carried_alike book (with_request stamp book origin entry) xs (each_map _ _ xs (λ n here. entered_keeps_activities stamp book origin entry n (known n here)) all)
  where
    known : (n : ℕ) → StandsAt good book n → n ≢ length book.requests + 1
    known n here next =
        let nowhere : place_in book (length book.requests + 1) ≡ None = next_nowhere book is_good in
        let no : is_among good None ≡ true = sym (ap (is_among good) (ap (place_in book) next ∙ nowhere)) ∙ here in
        let never : false ≡ true = no in cc
