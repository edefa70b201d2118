-- A loop that moves requests, one after the other: one more in turn, and the room for it.
use Rattle.std.proofs.Common.{◌≡◌, ℕ, zero, suc, ◌+◌, ◌<◌, ◌≤◌, true, false, Option, List, [], ◌∷◌, length, take, drop, get_or, fold, if◌then◌else◌, refl, sym, ◌∙◌, ap, subst, arith}
use Rattle.std.specs.List.{list_any}
use Rattle.std.proofs.lemmas.Bool.{or_parts}
use Rattle.std.proofs.lemmas.List.{take_more, length-append}
use Rattle.std.proofs.lemmas.List.Sums.{fold-append}
use Rattle.tc_types.specs.declared.history.places.Place.{Place}
use Rattle.tc_types.specs.declared.history.places.Place.TheVariants as place
use Rattle.tc_types.specs.declared.history.causes.Cause.{Cause}
use Rattle.tc_types.specs.declared.history.causes.Cause.TheVariants as cause
use Rattle.tc_types.specs.declared.acts.LinkAct.TheVariants as link_act
use Rattle.tc_types.specs.declared.link.reports.Report.TheVariants as report
use Rattle.tc_types.specs.declared.link.reports.Verification.{Verification}
use Rattle.tc_types.specs.declared.requests.Request.{Request}
use Rattle.tc_fop.specs.declared.signals.Indication.TheVariants as signal
use Rattle.tc_world.specs.declared.events.LinkIndication.{LinkIndication}
use Rattle.tc_world.specs.declared.events.LinkIndication.TheVariants as said
use Rattle.tc_board.specs.Mirror.{MirrorState}
use Rattle.tc_book.specs.declared.stamps.Stamp.{Stamp}
use Rattle.tc_book.specs.Batch.{GoesOn}
use Rattle.tc_book.specs.Book.{Book, stands, want, moved, row_of}
use Rattle.tc_book.specs.Records.{Kept}
use Rattle.tc_desk.specs.Acts.{released}
use Rattle.tc_desk.specs.Commands.{activities_at}
use Rattle.tc_desk.specs.Effects.{MayHold, OnlyMoves, tried, followed, tried_with, reported, besides_at, heard, heard_all, tells_report}
use Rattle.tc_desk.proofs.GoesOnLemmas.{tried-goes_on, followed-goes_on, besides_at-goes_on, heard-goes_on, heard_all-goes_on}

-- ---- requests are moved, and then more

pub moves_on : (old next new : Kept) → OnlyMoves old next → OnlyMoves next new → OnlyMoves old new
moves_on old next new first second =
    let kept = first.rows_kept in
    let still = second.rows_kept in record {
      rows_kept = omega (arith, kept, still);
      requests = second.requests ∙ first.requests;
      approvals = second.approvals ∙ first.approvals;
      stack_approvals = second.stack_approvals ∙ first.stack_approvals;
      log = second.log ∙ first.log;
    }

pub moves_none : (at : Kept) → OnlyMoves at at
moves_none at = record { rows_kept = omega arith; requests = refl; approvals = refl; stack_approvals = refl; log = refl }

-- ---- rows come, and none go

pub grown : (a b : Book) → GoesOn a b → length a.history ≤ length b.history
grown a b on =
    let longer : length b.history ≡ length a.history + length (drop (length a.history) b.history) = ap length on.history ∙ length-append a.history (drop (length a.history) b.history) in
    omega (arith, longer)

pub moved_rows : (stamp : Stamp) (book : Book) (n : ℕ) (to : Place) (c : Cause) → length (moved stamp book (want n to c)).history ≡ length book.history + 1
moved_rows stamp book n to c = length-append book.history (row_of stamp book.history (want n to c) ∷ [])

-- ---- a step after the other

module _ {X : Type 0} (step : Book → X → Book) where
  -- one more
  pub fold_more : (xs : List X) (k : ℕ) (d : X) (book : Book) → k < length xs → fold step book (take (k + 1) xs) ≡ step (fold step book (take k xs)) (get_or xs k d)
  fold_more xs k d book within = ap (λ l. fold step book l) (take_more xs k d within) ∙ fold-append step book (take k xs) (get_or xs k d ∷ [])

  fold_grows : ((b : Book) (x : X) → length b.history ≤ length (step b x).history) → (xs : List X) (book : Book) → length book.history ≤ length (fold step book xs).history
  fold_grows grows [] book = omega arith
  fold_grows grows (x ∷ xs) book = let one = grows book x in let others = fold_grows grows xs (step book x) in omega (arith, one, others)

  -- the first of these make no more rows than all of them
  fold_within : ((b : Book) (x : X) → length b.history ≤ length (step b x).history) → (xs : List X) (k : ℕ) (book : Book) → length (fold step book (take k xs)).history ≤ length (fold step book xs).history
  fold_within grows xs zero book = fold_grows grows xs book
  fold_within grows [] (suc k) book = omega arith
  fold_within grows (x ∷ xs) (suc k) book = fold_within grows xs k (step book x)

  -- where there is room for all of them, there is for one more
  pub room_in_turn : ((b : Book) (x : X) → length b.history ≤ length (step b x).history) → (xs : List X) (k : ℕ) (d : X) (book now : Book) (most : ℕ) → k < length xs
      → now ≡ fold step book (take k xs) → length (fold step book xs).history ≤ most → length (step now (get_or xs k d)).history ≤ most
  room_in_turn grows xs k d book now most within is room =
      let more : step now (get_or xs k d) ≡ fold step book (take (k + 1) xs) = ap (λ b. step b (get_or xs k d)) is ∙ sym (fold_more xs k d book within) in
      let same = ap (λ (b : Book). length b.history) more in
      let few = fold_within grows xs (k + 1) book in
      omega (arith, same, few, room)

-- ---- the steps that are made

pub tried_grows : (stamp : Stamp) (places : List Place) (to : Place) (c : Cause) (book : Book) (n : ℕ) → length book.history ≤ length (tried stamp book n places to c).history
tried_grows stamp places to c book n = grown book (tried stamp book n places to c) (tried-goes_on stamp book n places to c)

pub heard_grows : (stamp : Stamp) (mirror : MirrorState) (book : Book) (i : LinkIndication) → length book.history ≤ length (heard stamp mirror book i).history
heard_grows stamp mirror book i = grown book (heard stamp mirror book i) (heard-goes_on stamp mirror book i)

-- one more of the activities was looked at
pub followed_more : (stamp : Stamp) (activities : List ℕ) (k : ℕ) (places : List Place) (to : Place) (c : Cause) (book now after : Book) → k < length activities
    → now ≡ followed stamp book (take k activities) places to c → after ≡ tried stamp now (get_or activities k 0) places to c → after ≡ followed stamp book (take (k + 1) activities) places to c
followed_more stamp activities k places to c book now after within is made =
    made ∙ ap (λ (b : Book). tried stamp b (get_or activities k 0) places to c) is ∙ sym (fold_more (λ (b : Book) (n : ℕ). tried stamp b n places to c) activities k 0 book within)

pub follow_in_turn : (stamp : Stamp) (activities : List ℕ) (k : ℕ) (places : List Place) (to : Place) (c : Cause) (old now : Kept) → k < length activities
    → now.book ≡ followed stamp old.book (take k activities) places to c → OnlyMoves old now → MayHold old (followed stamp old.book activities places to c)
    → MayHold now (tried stamp now.book (get_or activities k 0) places to c)
follow_in_turn stamp activities k places to c old now within is kept room =
    let most = kept.rows_kept in
    room_in_turn (λ (b : Book) (n : ℕ). tried stamp b n places to c) (tried_grows stamp places to c) activities k 0 old.book now.book now.most_rows within is (omega (arith, room, most))

-- as many rows come of the same activities of the same book
pub followed_alike : (stamp : Stamp) (a b : Book) (activities others : List ℕ) (places : List Place) (to : Place) (c : Cause) → a ≡ b → activities ≡ others
    → length (followed stamp a activities places to c).history ≡ length (followed stamp b others places to c).history
followed_alike stamp a b activities others places to c same alike =
    ap (λ (book : Book). length (followed stamp book activities places to c).history) same ∙ ap (λ (l : List ℕ). length (followed stamp b l places to c).history) alike

-- one more was heard
pub heard_more : (stamp : Stamp) (mirror : MirrorState) (said : List LinkIndication) (k : ℕ) (i : LinkIndication) (book now after : Book) → k < length said → i ≡ get_or said k i
    → now ≡ heard_all stamp mirror (take k said) book → after ≡ heard stamp mirror now i → after ≡ heard_all stamp mirror (take (k + 1) said) book
heard_more stamp mirror said k i book now after within item is made =
    made ∙ ap (λ (b : Book). heard stamp mirror b i) is ∙ ap (heard stamp mirror (heard_all stamp mirror (take k said) book)) item ∙ sym (fold_more (heard stamp mirror) said k i book within)

pub hear_in_turn : (stamp : Stamp) (mirror : MirrorState) (said : List LinkIndication) (k : ℕ) (i : LinkIndication) (old now : Kept) → k < length said → i ≡ get_or said k i
    → now.book ≡ heard_all stamp mirror (take k said) old.book → OnlyMoves old now → MayHold old (heard_all stamp mirror said old.book) → MayHold now (heard stamp mirror now.book i)
hear_in_turn stamp mirror said k i old now within item is kept room =
    let most = kept.rows_kept in
    subst (λ (j : LinkIndication). length (heard stamp mirror now.book j).history ≤ now.most_rows) (sym item)
    (room_in_turn (heard stamp mirror) (heard_grows stamp mirror) said k i old.book now.book now.most_rows within is (omega (arith, room, most)))

-- a request that moves with its activities: there is room for its own row, and for theirs
pub room_to_move_with : (stamp : Stamp) (book : Book) (n : ℕ) (places : List Place) (to : Place) (c : Cause) (most : ℕ) → stands book n places ≡ true → length (tried_with stamp book n places to c).history ≤ most
    → (length book.history < most) × (length (followed stamp (moved stamp book (want n to c)) (activities_at book n) (place.Riding ∷ []) to c).history ≤ most)
room_to_move_with stamp book n places to c most here room =
    let after : Book = moved stamp book (want n to c) in
    let whole : Book = followed stamp after (activities_at book n) (place.Riding ∷ []) to c in
    let is : tried_with stamp book n places to c ≡ whole = ap (λ t. if t then whole else book) here in
    let same = ap (λ (b : Book). length b.history) is in
    let longer = moved_rows stamp book n to c in
    let more = grown after whole (followed-goes_on stamp after (activities_at book n) (place.Riding ∷ []) to c) in
    (omega (arith, same, longer, more, room), omega (arith, same, room))

-- a request that is released: there is room for its own row, for those of its activities, and for those of what the link told
pub room_to_depart : (stamp : Stamp) (mirror : MirrorState) (all : List LinkIndication) (book : Book) (n : ℕ) (most : ℕ) → length (heard_all stamp mirror all (released stamp (link_act.Release n) book)).history ≤ most
    → (length book.history < most) × (length (released stamp (link_act.Release n) book).history ≤ most)
room_to_depart stamp mirror all book n most room =
    let after : Book = moved stamp book (want n place.Queued cause.Release) in
    let gone : Book = released stamp (link_act.Release n) book in
    let own = moved_rows stamp book n place.Queued cause.Release in
    let more = grown after gone (followed-goes_on stamp after (activities_at book n) (place.Approved ∷ []) place.Riding cause.Release) in
    let told = grown gone (heard_all stamp mirror all gone) (heard_all-goes_on stamp mirror all gone) in
    (omega (arith, own, more, told, room), omega (arith, told, room))

-- where there is room for all that a report makes, there is for its own row
pub room_to_report : (stamp : Stamp) (mirror : MirrorState) (v : Verification) (found : Option Request) (book : Book) (n : ℕ) (to : Place) (most : ℕ) → length (besides_at stamp mirror v found (reported stamp book n to)).history ≤ most
    → length (reported stamp book n to).history ≤ most
room_to_report stamp mirror v found book n to most room =
    let after : Book = reported stamp book n to in
    let more = grown after (besides_at stamp mirror v found after) (besides_at-goes_on stamp mirror v found after) in
    omega (arith, more, room)

-- ---- what is heard where no report came down is heard with any mirror

heard_alike : (stamp : Stamp) (a b : MirrorState) (book : Book) (i : LinkIndication) → tells_report i ≡ false → heard stamp a book i ≡ heard stamp b book i
heard_alike stamp a b book (said.Fop (signal.Sent n)) quiet = refl
heard_alike stamp a b book (said.Fop (signal.Confirmed n)) quiet = refl
heard_alike stamp a b book (said.Fop (signal.GivenBack n)) quiet = refl
heard_alike stamp a b book (said.Fop (signal.InDoubt n)) quiet = refl
heard_alike stamp a b book (said.Fop (signal.Alert kind)) quiet = refl
heard_alike stamp a b book (said.Fop signal.Started) quiet = refl
heard_alike stamp a b book (said.Farm verdict) quiet = refl
heard_alike stamp a b book (said.Received (report.Word word)) quiet = refl
heard_alike stamp a b book (said.Received (report.Telemetry item)) quiet = cc
heard_alike stamp a b book said.Lost quiet = refl
heard_alike stamp a b book (said.Transmitted frame) quiet = refl

all_heard_alike : (stamp : Stamp) (a b : MirrorState) (all : List LinkIndication) (book : Book) → list_any tells_report all ≡ false → heard_all stamp a all book ≡ heard_all stamp b all book
all_heard_alike stamp a b [] book quiet = refl
all_heard_alike stamp a b (i ∷ all) book quiet =
    let parts = or_parts (tells_report i) (list_any tells_report all) quiet in
    all_heard_alike stamp a b all (heard stamp a book i) parts.1 ∙ ap (heard_all stamp b all) (heard_alike stamp a b book i parts.0)

pub room_alike : (stamp : Stamp) (a b : MirrorState) (all : List LinkIndication) (book : Book) (at : Kept) → list_any tells_report all ≡ false → MayHold at (heard_all stamp a all book) → MayHold at (heard_all stamp b all book)
room_alike stamp a b all book at quiet room = subst (λ (after : Book). length after.history ≤ at.most_rows) (all_heard_alike stamp a b all book quiet) room
