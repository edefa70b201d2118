-- How many rows an event of the link makes: one for each indication, and one for each request that rides. For each row that the link's
-- telling makes of an activity, one request rides less.
use Rattle.std.proofs.Common.{◌≡◌, ◌≢◌, ℕ, ◌+◌, ◌<◌, ◌≤◌, ◌==◌, nat_lt, Bool, true, false, cond, min, if◌then◌else◌, is_some, Option, Some, None, List, [], ◌∷◌, ◌++◌, length, map, count_by, refl, sym, ◌∙◌, ap, subst, arith, ⊎_elim}
use Rattle.std.specs.List.{list_any}
use Rattle.std.proofs.lemmas.Bool.{or_parts}
use Rattle.std.proofs.lemmas.Bool.Decides.{nat_tests}
use Rattle.std.proofs.lemmas.List.{length-append, length-map}
use Rattle.std.proofs.lemmas.List.Sums.{sum_by-cons}
use Rattle.tc_types.specs.declared.history.places.Place.{Place}
use Rattle.tc_types.specs.declared.history.places.Place.TheVariants as place
use Rattle.tc_types.specs.declared.history.causes.Cause.{Cause}
use Rattle.tc_types.specs.declared.history.causes.Cause.TheVariants as cause
use Rattle.tc_types.specs.declared.link.reports.Report.TheVariants as report
use Rattle.tc_types.specs.declared.link.reports.Telemetry.{Telemetry}
use Rattle.tc_types.specs.declared.link.reports.Telemetry.TheVariants as telemetry
use Rattle.tc_types.specs.declared.link.reports.Verification.{Verification}
use Rattle.tc_types.specs.declared.requests.Command.{Command}
use Rattle.tc_types.specs.declared.requests.Command.TheVariants as command
use Rattle.tc_types.specs.declared.requests.Request.{Request}
use Rattle.tc_types.specs.declared.acts.LinkAct.TheVariants as link_act
use Rattle.tc_types.specs.Grammar.{IsCommand}
use Rattle.tc_types.specs.History.{entered, AllAfter}
use Rattle.tc_types.specs.Lawful.{is_among, is_lawful}
use Rattle.tc_types.specs.Schedule.{ridden, inserted as inserted_by}
use Rattle.tc_types.specs.Stages.{stage_of_verification}
use Rattle.tc_fop.specs.declared.signals.Indication.TheVariants as signal
use Rattle.tc_world.specs.declared.events.LinkIndication.{LinkIndication}
use Rattle.tc_world.specs.declared.events.LinkIndication.TheVariants as said
use Rattle.tc_board.specs.Mirror.{MirrorState}
use Rattle.tc_book.specs.declared.stamps.Stamp.{Stamp}
use Rattle.tc_book.specs.Book.{Book, place_in, stands, request_at, want, moved, row_of}
use Rattle.tc_book.specs.Good.{IsGoodBook, IsGoodRequest}
use Rattle.tc_book.specs.Places.{numbers_from}
use Rattle.tc_book.proofs.GoodLemmas.{as_many}
use Rattle.tc_book.proofs.HistoryLemmas.{entered-moved, place_of-unknown, place_of-zero}
use Rattle.tc_desk.specs.Acts.{released}
use Rattle.tc_desk.specs.Commands.{activities_in, activities_at}
use Rattle.tc_desk.specs.Effects.{riding, tried, followed, tried_with, reported, is_completed, is_failed, inserted, deleted, emptied, besides, besides_at, told, heard, heard_all, tells_report, ComesAlone}
use Rattle.tc_desk.proofs.ArrivalLemmas.{sound_in}
use Rattle.tc_desk.proofs.EmptyLemmas.{emptied_rows}
use Rattle.tc_desk.proofs.LoopLemmas.{moved_rows}
use Rattle.tc_desk.proofs.TiedLemmas.{place_moved}

-- ---- how many of a list pass a test

-- one more passes it, or not
abbrev so_many : Bool → ℕ → ℕ
so_many t k = if t then k else 0

count-cons : (test : ℕ → Bool) (x : ℕ) (xs : List ℕ) → count_by test (x ∷ xs) ≡ so_many (test x) 1 + count_by test xs
count-cons test x xs = sum_by-cons (λ n. cond (test n) 1 0) x xs

so_many_more : (t : Bool) (k : ℕ) → so_many t (1 + k) ≡ so_many t 1 + so_many t k
so_many_more true k = refl
so_many_more false k = refl

-- two tests that differ at n alone: the one is passed by as many more as n stands there
counts_differ : (f g : ℕ → Bool) (n : ℕ) → ((m : ℕ) → (n == m) ≡ false → g m ≡ f m) → (xs : List ℕ)
    → count_by g xs + so_many (f n) (count_by (λ m. n == m) xs) ≡ count_by f xs + so_many (g n) (count_by (λ m. n == m) xs)
counts_differ f g n alike [] = by_tests (f n) (g n)
  where
    by_tests : (a b : Bool) → 0 + so_many a 0 ≡ 0 + so_many b 0
    by_tests true true = refl
    by_tests true false = refl
    by_tests false true = refl
    by_tests false false = refl
counts_differ f g n alike (x ∷ xs) = by_test (counts_differ f g n alike xs) (n == x) refl
  where
    here : ℕ
    here = count_by (λ m. n == m) xs

    by_test : count_by g xs + so_many (f n) here ≡ count_by f xs + so_many (g n) here → (t : Bool) → (n == x) ≡ t → count_by g (x ∷ xs) + so_many (f n) (count_by (λ m. n == m) (x ∷ xs)) ≡ count_by f (x ∷ xs) + so_many (g n) (count_by (λ m. n == m) (x ∷ xs))
    by_test others true e =
        let same : x ≡ n = grind (arith, nat_tests) in
        let more : count_by (λ m. n == m) (x ∷ xs) ≡ 1 + here = count-cons (λ m. n == m) x xs ∙ ap (λ t. so_many t 1 + here) e in
        let by_f : count_by f (x ∷ xs) ≡ so_many (f n) 1 + count_by f xs = count-cons f x xs ∙ ap (λ k. so_many (f k) 1 + count_by f xs) same in
        let by_g : count_by g (x ∷ xs) ≡ so_many (g n) 1 + count_by g xs = count-cons g x xs ∙ ap (λ k. so_many (g k) 1 + count_by g xs) same in
        let with_f : so_many (f n) (count_by (λ m. n == m) (x ∷ xs)) ≡ so_many (f n) 1 + so_many (f n) here = ap (so_many (f n)) more ∙ so_many_more (f n) here in
        let with_g : so_many (g n) (count_by (λ m. n == m) (x ∷ xs)) ≡ so_many (g n) 1 + so_many (g n) here = ap (so_many (g n)) more ∙ so_many_more (g n) here in
        omega (arith, by_f, by_g, with_f, with_g, others)
    by_test others false e =
        let more : count_by (λ m. n == m) (x ∷ xs) ≡ here = count-cons (λ m. n == m) x xs ∙ ap (λ t. so_many t 1 + here) e ∙ omega arith in
        let by_f : count_by f (x ∷ xs) ≡ so_many (f x) 1 + count_by f xs = count-cons f x xs in
        let by_g : count_by g (x ∷ xs) ≡ so_many (f x) 1 + count_by g xs = count-cons g x xs ∙ ap (λ t. so_many t 1 + count_by g xs) (alike x e) in
        let with_f : so_many (f n) (count_by (λ m. n == m) (x ∷ xs)) ≡ so_many (f n) here = ap (so_many (f n)) more in
        let with_g : so_many (g n) (count_by (λ m. n == m) (x ∷ xs)) ≡ so_many (g n) here = ap (so_many (g n)) more in
        omega (arith, by_f, by_g, with_f, with_g, others)

-- ---- who was entered

-- a number stands among these once where it is none before or past them
counted_before : {X : Type 0} (n k : ℕ) (xs : List X) → n < k → count_by (λ m. n == m) (numbers_from k xs) ≡ 0
counted_before n k [] less = refl
counted_before n k (x ∷ xs) less =
    let other : (n == k) ≡ false = grind (arith, nat_tests) in
    count-cons (λ m. n == m) k (numbers_from (k + 1) xs) ∙ ap (λ t. so_many t 1 + count_by (λ m. n == m) (numbers_from (k + 1) xs)) other ∙ ap (λ c. 0 + c) (counted_before n (k + 1) xs (omega (arith, less)))

counted_once : {X : Type 0} (n k : ℕ) (xs : List X) → k ≤ n → n < k + length xs → count_by (λ m. n == m) (numbers_from k xs) ≡ 1
counted_once n k [] least most = absurd (omega (arith, least, most))
counted_once n k (x ∷ xs) least most = count-cons (λ m. n == m) k (numbers_from (k + 1) xs) ∙ by_test (counted_once n (k + 1) xs) (n == k) refl
  where
    by_test : (k + 1 ≤ n → n < k + 1 + length xs → count_by (λ m. n == m) (numbers_from (k + 1) xs) ≡ 1) → (t : Bool) → (n == k) ≡ t → so_many t 1 + count_by (λ m. n == m) (numbers_from (k + 1) xs) ≡ 1
    by_test others true e =
        let same : n ≡ k = grind (arith, nat_tests) in
        let none = counted_before n (k + 1) xs (omega (arith, same)) in omega (arith, none)
    by_test others false e =
        let other : n ≢ k = λ is. grind (arith, nat_tests) in
        let longer : length (x ∷ xs) ≡ length xs + 1 = omega arith in
        let one = others (omega (arith, least, other)) (omega (arith, most, longer)) in omega (arith, one)

-- the requests of a good book are numbered from 1
numbered : (before requests : List Request) → AllAfter IsGoodRequest before requests → map (λ (r : Request). r.number) requests ≡ numbers_from (length before + 1) requests
numbered before [] good = refl
numbered before (x ∷ requests) good =
    let longer : length (before ++ x ∷ []) ≡ length before + 1 = length-append before (x ∷ []) in
    ap (λ n. n ∷ map (λ (r : Request). r.number) requests) good.0.number
    ∙ ap (λ l. (length before + 1) ∷ l) (numbered (before ++ x ∷ []) requests good.1 ∙ ap (λ k. numbers_from (k + 1) requests) longer)

-- What is used of a good book: who stands somewhere was entered, once; there are no more requests than a desk takes; and no insert has more
-- activities than one has.
pub record IsOrderly (book : Book) : Type 0 where
  pub once : (n : ℕ) → is_some (place_in book n) ≡ true → count_by (λ m. n == m) (entered book.history) ≡ 1
  pub few : length book.requests ≤ 65535
  pub short : (n : ℕ) → length (activities_at book n) ≤ 8

entered_once : (book : Book) → IsGoodBook book → (n : ℕ) → is_some (place_in book n) ≡ true → count_by (λ m. n == m) (entered book.history) ≡ 1
entered_once book good n somewhere =
    ap (count_by (λ m. n == m)) (good.entered ∙ numbered [] book.requests good.requests ∙ ap (λ k. numbers_from k book.requests) (omega arith))
    ∙ counted_once n 1 book.requests (least (n == 0) refl) (most (nat_lt (length book.requests) n) refl)
  where
    nowhere : place_in book n ≡ None → ⊥
    nowhere none = let no : false ≡ true = sym (ap is_some none) ∙ somewhere in cc

    least : (t : Bool) → (n == 0) ≡ t → 1 ≤ n
    least true e = let zero : n ≡ 0 = grind (arith, nat_tests) in absurd (nowhere (ap (place_in book) zero ∙ place_of-zero book.history good.history))
    least false e = let some : n ≢ 0 = λ is. grind (arith, nat_tests) in omega (arith, some)

    most : (t : Bool) → nat_lt (length book.requests) n ≡ t → n < 1 + length book.requests
    most true e =
        let same = as_many book good in
        let past : length book.requests < n = grind (arith, nat_tests) in
        absurd (nowhere (place_of-unknown book.history n good.history (omega (arith, same, past))))
    most false e = let within : n ≤ length book.requests = grind (arith, nat_tests) in omega (arith, within)

-- an insert has no more activities than one has
few_inserted : (given : Command) → IsCommand given → length (inserted_by given) ≤ 8
few_inserted (command.Plain service subtype) is = omega arith
few_inserted command.EnableSchedule is = omega arith
few_inserted command.DisableSchedule is = omega arith
few_inserted command.ResetSchedule is = omega arith
few_inserted (command.InsertActivities rides) is = let few = is.0.few in let same = length-map rides ridden in omega (arith, few, same)
few_inserted (command.DeleteActivity target) is = omega arith
few_inserted (command.ShiftActivity target offset) is = omega arith
few_inserted (command.ShiftAll offset) is = omega arith
few_inserted command.SummarizeAll is = omega arith

few_activities : (book : Book) → IsGoodBook book → (n : ℕ) → length (activities_at book n) ≤ 8
few_activities book good n = by_found (request_at book n) refl
  where
    by_found : (found : Option Request) → request_at book n ≡ found → length (activities_in found) ≤ 8
    by_found None e = omega arith
    by_found (Some r) e = few_inserted r.body.command (sound_in book n r good e).good.entry.command

pub orderly : (book : Book) → IsGoodBook book → IsOrderly book
orderly book good = record { once = entered_once book good; few = good.few; short = few_activities book good }

-- ---- moves

-- whether a request that stands here rides
abbrev rides_at : Option Place → Bool
rides_at at = is_among (place.Riding ∷ []) at

-- so many rows and riders more, at most; and the book is orderly still
pub record Spends (more : ℕ) (old new : Book) : Type 0 where
  pub orderly : IsOrderly new
  pub spent : length new.history + riding new ≤ length old.history + riding old + more

spends_none : (book : Book) → IsOrderly book → Spends 0 book book
spends_none book orderly = record { orderly = orderly; spent = omega arith }

spends_within : (some more : ℕ) (old new : Book) → Spends some old new → some ≤ more → Spends more old new
spends_within some more old new spends within = let spent = spends.spent in record { orderly = spends.orderly; spent = omega (arith, spent, within) }

spends_on : (some more : ℕ) (a b c : Book) → Spends some a b → Spends more b c → Spends (some + more) a c
spends_on some more a b c first second =
    let before = first.spent in
    let behind = second.spent in
    record { orderly = second.orderly; spent = omega (arith, before, behind) }

-- where a request stands that was moved, or another
somewhere_before : (stamp : Stamp) (book : Book) (n : ℕ) (to : Place) (c : Cause) → is_some (place_in book n) ≡ true → (m : ℕ) → is_some (place_in (moved stamp book (want n to c)) m) ≡ true → is_some (place_in book m) ≡ true
somewhere_before stamp book n to c here m there = by_test (n == m) refl (ap is_some (sym (place_moved stamp book n to c m)) ∙ there)
  where
    by_test : (t : Bool) → (n == m) ≡ t → is_some (if t then Some to else place_in book m) ≡ true → is_some (place_in book m) ≡ true
    by_test true e was = let same : n ≡ m = grind (arith, nat_tests) in subst (λ k. is_some (place_in book k) ≡ true) same here
    by_test false e was = was

-- a move of a request that stands somewhere: one row more; and whoever rode or rides now counts once
moved_rides : (stamp : Stamp) (book : Book) (n : ℕ) (to : Place) (c : Cause) → IsOrderly book → is_some (place_in book n) ≡ true
    → IsOrderly (moved stamp book (want n to c)) × (riding (moved stamp book (want n to c)) + so_many (rides_at (place_in book n)) 1 ≡ riding book + so_many (rides_at (Some to)) 1)
unfolding riding
moved_rides stamp book n to c is here = (record { once = λ m there. ap (count_by (λ k. m == k)) entered_same ∙ is.once m (somewhere_before stamp book n to c here m there); few = is.few; short = is.short }, counted)
  where
    after : Book
    after = moved stamp book (want n to c)

    entered_same : entered after.history ≡ entered book.history
    entered_same = entered-moved book.history (row_of stamp book.history (want n to c)) here

    alike : (m : ℕ) → (n == m) ≡ false → rides_at (place_in after m) ≡ rides_at (place_in book m)
    alike m other = ap rides_at (place_moved stamp book n to c m ∙ ap (λ t. if t then Some to else place_in book m) other)

    now : rides_at (place_in after n) ≡ rides_at (Some to)
    now = let same : (n == n) ≡ true = grind (arith, nat_tests) in ap rides_at (place_moved stamp book n to c n ∙ ap (λ t. if t then Some to else place_in book n) same)

    counted : count_by (λ m. rides_at (place_in after m)) (entered after.history) + so_many (rides_at (place_in book n)) 1 ≡ count_by (λ m. rides_at (place_in book m)) (entered book.history) + so_many (rides_at (Some to)) 1
    counted =
        let differ = counts_differ (λ m. rides_at (place_in book m)) (λ m. rides_at (place_in after m)) n alike (entered book.history) in
        let one = is.once n here in
        let was = ap (λ k. so_many (rides_at (place_in book n)) k) one in
        let is_now = ap (λ k. so_many (rides_at (place_in after n)) k) one ∙ ap (λ t. so_many t 1) now in
        let all = ap (count_by (λ m. rides_at (place_in after m))) entered_same in
        omega (arith, differ, was, is_now, all)

-- who stands among places stands somewhere
stands_somewhere : (places : List Place) (at : Option Place) → is_among places at ≡ true → is_some at ≡ true
stands_somewhere places None here = cc
stands_somewhere places (Some p) here = refl

-- one that goes to no insert
away_spends : (stamp : Stamp) (book : Book) (n : ℕ) (places : List Place) (to : Place) (c : Cause) → IsOrderly book → rides_at (Some to) ≡ false → stands book n places ≡ true → Spends 1 book (moved stamp book (want n to c))
away_spends stamp book n places to c is out here =
    let moves = moved_rides stamp book n to c is (stands_somewhere places (place_in book n) here) in
    let rides = moves.1 in
    let none = ap (λ t. so_many t 1) out in
    let longer = moved_rows stamp book n to c in
    record { orderly = moves.0; spent = omega (arith, rides, none, longer) }

tried_spends : (stamp : Stamp) (book : Book) (n : ℕ) (places : List Place) (to : Place) (c : Cause) → IsOrderly book → rides_at (Some to) ≡ false → Spends 1 book (tried stamp book n places to c)
tried_spends stamp book n places to c is out = by_test (stands book n places) refl
  where
    by_test : (t : Bool) → stands book n places ≡ t → Spends 1 book (if t then moved stamp book (want n to c) else book)
    by_test true e = away_spends stamp book n places to c is out e
    by_test false e = spends_within 0 1 book book (spends_none book is) (omega arith)

-- one that leaves an insert: for its row one rides less
left_spends : (stamp : Stamp) (book : Book) (n : ℕ) (to : Place) (c : Cause) → IsOrderly book → rides_at (Some to) ≡ false → Spends 0 book (tried stamp book n (place.Riding ∷ []) to c)
left_spends stamp book n to c is out = by_test (stands book n (place.Riding ∷ [])) refl
  where
    by_test : (t : Bool) → stands book n (place.Riding ∷ []) ≡ t → Spends 0 book (if t then moved stamp book (want n to c) else book)
    by_test true e =
        let moves = moved_rides stamp book n to c is (stands_somewhere (place.Riding ∷ []) (place_in book n) e) in
        let rides = moves.1 in
        let one = ap (λ t. so_many t 1) e in
        let none = ap (λ t. so_many t 1) out in
        let longer = moved_rows stamp book n to c in
        record { orderly = moves.0; spent = omega (arith, rides, one, none, longer) }
    by_test false e = spends_none book is

all_left_spend : (stamp : Stamp) (book : Book) (activities : List ℕ) (to : Place) (c : Cause) → IsOrderly book → rides_at (Some to) ≡ false → Spends 0 book (followed stamp book activities (place.Riding ∷ []) to c)
all_left_spend stamp book [] to c is out = spends_none book is
all_left_spend stamp book (n ∷ activities) to c is out =
    let after : Book = tried stamp book n (place.Riding ∷ []) to c in
    let one = left_spends stamp book n to c is out in
    spends_within (0 + 0) 0 book (followed stamp after activities (place.Riding ∷ []) to c) (spends_on 0 0 book after (followed stamp after activities (place.Riding ∷ []) to c) one (all_left_spend stamp after activities to c one.orderly out)) (omega arith)

-- one that goes into an insert: its row, and it rides
joined_spends : (stamp : Stamp) (book : Book) (n : ℕ) → IsOrderly book → Spends 2 book (tried stamp book n (place.Approved ∷ []) place.Riding cause.Release)
joined_spends stamp book n is = by_test (stands book n (place.Approved ∷ [])) refl
  where
    by_test : (t : Bool) → stands book n (place.Approved ∷ []) ≡ t → Spends 2 book (if t then moved stamp book (want n place.Riding cause.Release) else book)
    by_test true e =
        let moves = moved_rides stamp book n place.Riding cause.Release is (stands_somewhere (place.Approved ∷ []) (place_in book n) e) in
        let rides = moves.1 in
        let longer = moved_rows stamp book n place.Riding cause.Release in
        record { orderly = moves.0; spent = omega (arith, rides, longer) }
    by_test false e = spends_within 0 2 book book (spends_none book is) (omega arith)

all_joined_spend : (stamp : Stamp) (book : Book) (activities : List ℕ) → IsOrderly book → Spends (length activities + length activities) book (followed stamp book activities (place.Approved ∷ []) place.Riding cause.Release)
all_joined_spend stamp book [] is = spends_none book is
all_joined_spend stamp book (n ∷ activities) is =
    let after : Book = tried stamp book n (place.Approved ∷ []) place.Riding cause.Release in
    let last : Book = followed stamp after activities (place.Approved ∷ []) place.Riding cause.Release in
    let one = joined_spends stamp book n is in
    let more : length (n ∷ activities) ≡ length activities + 1 = omega arith in
    spends_within (2 + (length activities + length activities)) (length (n ∷ activities) + length (n ∷ activities)) book last
    (spends_on 2 (length activities + length activities) book after last one (all_joined_spend stamp after activities one.orderly)) (omega (arith, more))

-- a request that the link moves, and the activities that leave it
with_spends : (stamp : Stamp) (book : Book) (n : ℕ) (places : List Place) (to : Place) (c : Cause) → IsOrderly book → rides_at (Some to) ≡ false → Spends 1 book (tried_with stamp book n places to c)
with_spends stamp book n places to c is out = by_test (stands book n places) refl
  where
    after : Book
    after = moved stamp book (want n to c)

    behind_it : Book
    behind_it = followed stamp after (activities_at book n) (place.Riding ∷ []) to c

    by_test : (t : Bool) → stands book n places ≡ t → Spends 1 book (if t then behind_it else book)
    by_test true e =
        let own = away_spends stamp book n places to c is out e in
        spends_within (1 + 0) 1 book behind_it (spends_on 1 0 book after behind_it own (all_left_spend stamp after (activities_at book n) to c own.orderly out)) (omega arith)
    by_test false e = spends_within 0 1 book book (spends_none book is) (omega arith)

-- ---- what the link tells

heard_spends : (stamp : Stamp) (mirror : MirrorState) (book : Book) (i : LinkIndication) → IsOrderly book → tells_report i ≡ false → Spends 1 book (heard stamp mirror book i)
heard_spends stamp mirror book (said.Fop (signal.Sent n)) is quiet = tried_spends stamp book n (place.Queued ∷ []) place.Sent cause.Transmit is refl
heard_spends stamp mirror book (said.Fop (signal.Confirmed n)) is quiet = tried_spends stamp book n (place.Sent ∷ []) place.Confirmed cause.Confirm is refl
heard_spends stamp mirror book (said.Fop (signal.GivenBack n)) is quiet = with_spends stamp book n (place.Queued ∷ []) place.Approved cause.GiveBack is refl
heard_spends stamp mirror book (said.Fop (signal.InDoubt n)) is quiet = with_spends stamp book n (place.Sent ∷ []) place.Doubtful cause.Doubt is refl
heard_spends stamp mirror book (said.Fop (signal.Alert kind)) is quiet = spends_within 0 1 book book (spends_none book is) (omega arith)
heard_spends stamp mirror book (said.Fop signal.Started) is quiet = spends_within 0 1 book book (spends_none book is) (omega arith)
heard_spends stamp mirror book (said.Farm verdict) is quiet = spends_within 0 1 book book (spends_none book is) (omega arith)
heard_spends stamp mirror book (said.Received (report.Word word)) is quiet = spends_within 0 1 book book (spends_none book is) (omega arith)
heard_spends stamp mirror book (said.Received (report.Telemetry item)) is quiet = cc
heard_spends stamp mirror book said.Lost is quiet = spends_within 0 1 book book (spends_none book is) (omega arith)
heard_spends stamp mirror book (said.Transmitted frame) is quiet = spends_within 0 1 book book (spends_none book is) (omega arith)

heard_all_spend : (stamp : Stamp) (mirror : MirrorState) (all : List LinkIndication) (book : Book) → IsOrderly book → list_any tells_report all ≡ false → Spends (length all) book (heard_all stamp mirror all book)
heard_all_spend stamp mirror [] book is quiet = spends_none book is
heard_all_spend stamp mirror (i ∷ all) book is quiet =
    let parts = or_parts (tells_report i) (list_any tells_report all) quiet in
    let after : Book = heard stamp mirror book i in
    let one = heard_spends stamp mirror book i is parts.0 in
    let more : length (i ∷ all) ≡ length all + 1 = omega arith in
    spends_within (1 + length all) (length (i ∷ all)) book (heard_all stamp mirror all after) (spends_on 1 (length all) book after (heard_all stamp mirror all after) one (heard_all_spend stamp mirror all after one.orderly parts.1)) (omega (arith, more))

-- where no report came down: a row for each indication, and one for each request that rides
pub heard_rows : (stamp : Stamp) (mirror : MirrorState) (all : List LinkIndication) (book : Book) (most : ℕ) → IsOrderly book → list_any tells_report all ≡ false → length all ≤ most
    → length (heard_all stamp mirror all book).history ≤ length book.history + (most + riding book)
heard_rows stamp mirror all book most is quiet few = let spent = (heard_all_spend stamp mirror all book is quiet).spent in omega (arith, spent, few)

-- the same behind a release
pub departed_rows : (stamp : Stamp) (mirror : MirrorState) (all : List LinkIndication) (book : Book) (n : ℕ) (most : ℕ) → IsOrderly book → stands book n (place.Approved ∷ []) ≡ true → list_any tells_report all ≡ false → length all ≤ most
    → length (heard_all stamp mirror all (released stamp (link_act.Release n) book)).history ≤ length book.history + (17 + most + riding book)
departed_rows stamp mirror all book n most is here quiet few =
    let after : Book = moved stamp book (want n place.Queued cause.Release) in
    let gone : Book = released stamp (link_act.Release n) book in
    let own = away_spends stamp book n (place.Approved ∷ []) place.Queued cause.Release is refl here in
    let theirs = all_joined_spend stamp after (activities_at book n) own.orderly in
    let told = heard_all_spend stamp mirror all gone theirs.orderly quiet in
    let short = is.short n in
    let first = own.spent in
    let second = theirs.spent in
    let third = told.spent in
    omega (arith, first, second, third, short, few)

-- ---- reports

tried_rows : (stamp : Stamp) (book : Book) (n : ℕ) (places : List Place) (to : Place) (c : Cause) → length (tried stamp book n places to c).history ≤ length book.history + 1
tried_rows stamp book n places to c = by_test (stands book n places)
  where
    by_test : (t : Bool) → length (if t then moved stamp book (want n to c) else book).history ≤ length book.history + 1
    by_test true = let longer = moved_rows stamp book n to c in omega (arith, longer)
    by_test false = omega arith

followed_rows : (stamp : Stamp) (book : Book) (activities : List ℕ) (places : List Place) (to : Place) (c : Cause) → length (followed stamp book activities places to c).history ≤ length book.history + length activities
followed_rows stamp book [] places to c = omega arith
followed_rows stamp book (n ∷ activities) places to c =
    let one = tried_rows stamp book n places to c in
    let others = followed_rows stamp (tried stamp book n places to c) activities places to c in
    let more : length (n ∷ activities) ≡ length activities + 1 = omega arith in
    omega (arith, one, others, more)

-- rows that are made or not
rows_if : (t : Bool) (after book : Book) (most : ℕ) → length after.history ≤ length book.history + most → length (if t then after else book).history ≤ length book.history + most
rows_if true after book most few = few
rows_if false after book most few = omega arith

inserted_rows : (stamp : Stamp) (v : Verification) (activities : List ℕ) (book : Book) → length (inserted stamp v activities book).history ≤ length book.history + length activities
inserted_rows stamp v activities book = by_tests (is_completed v) (is_failed v)
  where
    from : List Place
    from = place.Riding ∷ place.Doubtful ∷ []

    by_tests : (done fails : Bool) → length (if done then followed stamp book activities from place.Scheduled cause.Insert else (if fails then followed stamp book activities from place.Failed cause.Insert else book)).history ≤ length book.history + length activities
    by_tests true fails = followed_rows stamp book activities from place.Scheduled cause.Insert
    by_tests false true = followed_rows stamp book activities from place.Failed cause.Insert
    by_tests false false = omega arith

-- a report on a request with this command
besides_rows : (stamp : Stamp) (mirror : MirrorState) (v : Verification) (given : Command) (book : Book) → length book.requests ≤ 65535 → length (inserted_by given) ≤ 8
    → length (besides stamp mirror v given book).history ≤ length book.history + (8 + min (length mirror.activities) 65535)
besides_rows stamp mirror v (command.Plain service subtype) book few short = omega arith
besides_rows stamp mirror v command.EnableSchedule book few short = omega arith
besides_rows stamp mirror v command.DisableSchedule book few short = omega arith
besides_rows stamp mirror v command.ResetSchedule book few short =
    let rows = emptied_rows stamp mirror book 65535 few in
    let all = rows_if (is_completed v) (emptied stamp mirror book) book (min (length mirror.activities) 65535) rows in omega (arith, all)
besides_rows stamp mirror v (command.InsertActivities rides) book few short = let rows = inserted_rows stamp v (map ridden rides) book in omega (arith, rows, short)
besides_rows stamp mirror v (command.DeleteActivity target) book few short =
    let rows = tried_rows stamp book target (place.Riding ∷ place.Scheduled ∷ place.Doubtful ∷ []) place.Deleted cause.Delete in
    let all = rows_if (is_completed v) (deleted stamp target book) book 1 rows in omega (arith, all)
besides_rows stamp mirror v (command.ShiftActivity target offset) book few short = omega arith
besides_rows stamp mirror v (command.ShiftAll offset) book few short = omega arith
besides_rows stamp mirror v command.SummarizeAll book few short = omega arith

-- a report makes a row of its request, one for each activity of its insert, or one for each that stood in the mirror
told_rows : (stamp : Stamp) (mirror : MirrorState) (book : Book) (item : Telemetry) → IsOrderly book → length (told stamp mirror book item).history ≤ length book.history + (9 + min (length mirror.activities) 65535)
told_rows stamp mirror book (telemetry.Summary summary) is = omega arith
told_rows stamp mirror book (telemetry.Verification v n identity) is = by_found (request_at book n) (is.short n)
  where
    after : Book
    after = reported stamp book n (stage_of_verification v)

    own : length after.history ≤ length book.history + 1
    own = rows_if (is_lawful (place_in book n) (stage_of_verification v) cause.Report) (moved stamp book (want n (stage_of_verification v) cause.Report)) book 1
        (let longer = moved_rows stamp book n (stage_of_verification v) cause.Report in omega (arith, longer))

    few : length after.requests ≤ 65535
    few = by_test (is_lawful (place_in book n) (stage_of_verification v) cause.Report)
      where
        by_test : (t : Bool) → length (if t then moved stamp book (want n (stage_of_verification v) cause.Report) else book).requests ≤ 65535
        by_test true = is.few
        by_test false = is.few

    by_found : (found : Option Request) → length (activities_in found) ≤ 8 → length (besides_at stamp mirror v found after).history ≤ length book.history + (9 + min (length mirror.activities) 65535)
    by_found None short = omega (arith, own)
    by_found (Some r) short = let more = besides_rows stamp mirror v r.body.command after few short in omega (arith, own, more)

-- whatever came down
pub down_rows : (stamp : Stamp) (mirror : MirrorState) (all : List LinkIndication) (book : Book) (most : ℕ) → IsOrderly book → ComesAlone all → length all ≤ most → 9 ≤ most
    → length (heard_all stamp mirror all book).history ≤ length book.history + (most + riding book + min (length mirror.activities) 65535)
down_rows stamp mirror all book most is alone few least = ⊎_elim
    (λ (quiet : list_any tells_report all ≡ false). let rows = heard_rows stamp mirror all book most is quiet few in omega (arith, rows))
    (λ (one : (item : Telemetry) × (all ≡ said.Received (report.Telemetry item) ∷ [])).
    let same = ap (λ (l : List LinkIndication). length (heard_all stamp mirror l book).history) one.1 in
    let rows = told_rows stamp mirror book one.0 is in omega (arith, same, rows, least))
    alone
