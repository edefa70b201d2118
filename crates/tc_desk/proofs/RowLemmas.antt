-- The rows tell of what is transmitted and confirmed.
use Rattle.std.proofs.Common.{◌≡◌, ℕ, ◌+◌, ◌≤◌, ◌==◌, Bool, true, false, if◌then◌else◌, Option, Some, None, List, [], ◌∷◌, ◌++◌, length, map, drop, fold, refl, sym, ◌∙◌, ap, subst, append-nil, arith}
use Rattle.std.specs.Prelude.{filter}
use Rattle.std.proofs.lemmas.List.{drop-append-le, length-append, map-append}
use Rattle.std.proofs.lemmas.List.Elements.{filter-append}
use Rattle.std.specs.List.{list_any}
use Rattle.tc_types.specs.declared.history.places.Place.{Place}
use Rattle.tc_types.specs.declared.history.places.Place.TheVariants as place
use Rattle.tc_types.specs.declared.history.causes.Cause.{Cause}
use Rattle.tc_types.specs.declared.history.causes.Cause.TheVariants as cause
use Rattle.tc_types.specs.declared.history.moves.Move.{Move}
use Rattle.tc_types.specs.declared.requests.Request.{Request}
use Rattle.tc_types.specs.declared.requests.Form.{Form}
use Rattle.tc_types.specs.declared.requests.Origin.{Origin}
use Rattle.tc_types.specs.declared.requests.Command.{Command}
use Rattle.tc_types.specs.declared.requests.Command.TheVariants as command
use Rattle.tc_types.specs.declared.link.reports.Report.TheVariants as report
use Rattle.tc_types.specs.declared.link.reports.Telemetry.TheVariants as telemetry
use Rattle.tc_types.specs.declared.link.reports.Verification.{Verification}
use Rattle.tc_types.specs.Lawful.{is_lawful, cause_number}
use Rattle.tc_types.specs.Schedule.{ridden}
use Rattle.tc_types.specs.Stages.{stage_of_verification}
use Rattle.tc_fop.specs.declared.signals.Indication.TheVariants as signal
use Rattle.tc_world.specs.declared.events.LinkIndication.{LinkIndication}
use Rattle.tc_world.specs.declared.events.LinkIndication.TheVariants as said
use Rattle.tc_world.specs.Sublist.{IsSublist, IsSublist-same}
use Rattle.tc_world.specs.Telling.{leaves_said, sent_said, confirmed_said}
use Rattle.tc_world.proofs.Lists.{sublist_both, sublist_of_front}
use Rattle.tc_book.specs.declared.stamps.Stamp.{Stamp}
use Rattle.tc_book.specs.Book.{Book, place_in, stands, request_at, moved, want, row_of, with_request}
use Rattle.tc_book.specs.Places.{numbers_from}
use Rattle.tc_board.specs.Mirror.{MirrorState, is_listed_of}
use Rattle.tc_desk.specs.Commands.{activities_at}
use Rattle.tc_desk.specs.Effects.{tried, followed, tried_with, reported, is_completed, is_failed, inserted, deleted, removed, emptied, besides, besides_at, heard}
use Rattle.tc_desk.specs.Rows.{moved_for, transmit_rows, confirm_rows, AreTold}
use Rattle.tc_desk.proofs.TiedLemmas.{Waits}

-- ---- rows behind others

moved_behind : (why : Cause) (o : ℕ) (rows more : List Move) → o ≤ length rows → moved_for why (drop o (rows ++ more)) ≡ moved_for why (drop o rows) ++ moved_for why more
moved_behind why o rows more few =
    ap (moved_for why) (drop-append-le o rows more few)
    ∙ ap (map (λ (row : Move). row.request)) (filter-append (λ (row : Move). cause_number row.cause == cause_number why) (drop o rows) more)
    ∙ map-append (λ (row : Move). row.request) (filter (λ (row : Move). cause_number row.cause == cause_number why) (drop o rows)) (filter (λ (row : Move). cause_number row.cause == cause_number why) more)

more_rows : (o : ℕ) (rows : List Move) (row : Move) → o ≤ length rows → o ≤ length (rows ++ row ∷ [])
more_rows o rows row few = let long : length (rows ++ row ∷ []) ≡ length rows + 1 = length-append rows (row ∷ []) in omega (arith, few, long)

-- ---- what tells of neither

-- a move that is neither a transmission nor a confirmation
pub record IsQuiet (why : Cause) : Type 0 where
  pub transmits : (cause_number why == 5) ≡ false
  pub confirms : (cause_number why == 6) ≡ false

-- nothing more is told
pub record StillTold (o : ℕ) (old new : Book) : Type 0 where
  pub few : o ≤ length old.history → o ≤ length new.history
  pub transmits : o ≤ length old.history → transmit_rows o new ≡ transmit_rows o old
  pub confirms : o ≤ length old.history → confirm_rows o new ≡ confirm_rows o old

pub same_still : (o : ℕ) (book : Book) → StillTold o book book
same_still o book = record { few = λ few. few; transmits = λ few. refl; confirms = λ few. refl }

pub then_still : (o : ℕ) (a b c : Book) → StillTold o a b → StillTold o b c → StillTold o a c
then_still o a b c first second = record {
  few = λ few. second.few (first.few few);
  transmits = λ few. second.transmits (first.few few) ∙ first.transmits few;
  confirms = λ few. second.confirms (first.few few) ∙ first.confirms few;
}

if_still : (o : ℕ) (book after : Book) (t : Bool) → StillTold o book after → StillTold o book (if t then after else book)
if_still o book after true still = still
if_still o book after false still = same_still o book

none_for : (why : Cause) (row : Move) → (cause_number row.cause == cause_number why) ≡ false → moved_for why (row ∷ []) ≡ []
none_for why row e = rw e refl

-- one more row
pub moved_still : (o : ℕ) (stamp : Stamp) (book : Book) (n : ℕ) (to : Place) (why : Cause) → IsQuiet why → StillTold o book (moved stamp book (want n to why))
moved_still o stamp book n to why quiet =
    let row : Move = row_of stamp book.history (want n to why) in
    record {
      few = more_rows o book.history row;
      transmits = λ few. moved_behind cause.Transmit o book.history (row ∷ []) few ∙ ap (λ l. transmit_rows o book ++ l) (none_for cause.Transmit row quiet.transmits) ∙ append-nil (transmit_rows o book);
      confirms = λ few. moved_behind cause.Confirm o book.history (row ∷ []) few ∙ ap (λ l. confirm_rows o book ++ l) (none_for cause.Confirm row quiet.confirms) ∙ append-nil (confirm_rows o book);
    }

-- a request is entered
pub entered_still : (o : ℕ) (stamp : Stamp) (book : Book) (origin : Option Origin) (entry : Form) → StillTold o book (with_request stamp book origin entry)
entered_still o stamp book origin entry =
    let one = moved_still o stamp book (length book.requests + 1) place.Entered cause.Enter (record { transmits = refl; confirms = refl }) in
    record { few = one.few; transmits = one.transmits; confirms = one.confirms }

tried_still : (o : ℕ) (stamp : Stamp) (book : Book) (n : ℕ) (places : List Place) (to : Place) (why : Cause) → IsQuiet why → StillTold o book (tried stamp book n places to why)
tried_still o stamp book n places to why quiet = if_still o book (moved stamp book (want n to why)) (stands book n places) (moved_still o stamp book n to why quiet)

pub followed_still : (o : ℕ) (stamp : Stamp) (book : Book) (activities : List ℕ) (places : List Place) (to : Place) (why : Cause) → IsQuiet why → StillTold o book (followed stamp book activities places to why)
followed_still o stamp book [] places to why quiet = same_still o book
followed_still o stamp book (n ∷ activities) places to why quiet =
    let after : Book = tried stamp book n places to why in
    then_still o book after (followed stamp after activities places to why) (tried_still o stamp book n places to why quiet) (followed_still o stamp after activities places to why quiet)

tried_with_still : (o : ℕ) (stamp : Stamp) (book : Book) (n : ℕ) (places : List Place) (to : Place) (why : Cause) → IsQuiet why → StillTold o book (tried_with stamp book n places to why)
tried_with_still o stamp book n places to why quiet =
    let after : Book = moved stamp book (want n to why) in
    if_still o book (followed stamp after (activities_at book n) (place.Riding ∷ []) to why) (stands book n places)
    (then_still o book after (followed stamp after (activities_at book n) (place.Riding ∷ []) to why) (moved_still o stamp book n to why quiet) (followed_still o stamp after (activities_at book n) (place.Riding ∷ []) to why quiet))

-- ---- reports

quiet_report : IsQuiet cause.Report
quiet_report = record { transmits = refl; confirms = refl }

quiet_insert : IsQuiet cause.Insert
quiet_insert = record { transmits = refl; confirms = refl }

quiet_delete : IsQuiet cause.Delete
quiet_delete = record { transmits = refl; confirms = refl }

quiet_reset : IsQuiet cause.Reset
quiet_reset = record { transmits = refl; confirms = refl }

reported_still : (o : ℕ) (stamp : Stamp) (book : Book) (n : ℕ) (to : Place) → StillTold o book (reported stamp book n to)
reported_still o stamp book n to = if_still o book (moved stamp book (want n to cause.Report)) (is_lawful (place_in book n) to cause.Report) (moved_still o stamp book n to cause.Report quiet_report)

removed_still : (o : ℕ) (stamp : Stamp) (mirror : MirrorState) (ns : List ℕ) (book : Book) → StillTold o book (fold (removed stamp mirror) book ns)
removed_still o stamp mirror [] book = same_still o book
removed_still o stamp mirror (n ∷ ns) book =
    then_still o book (removed stamp mirror book n) (fold (removed stamp mirror) (removed stamp mirror book n) ns)
    (if_still o book (tried stamp book n (place.Scheduled ∷ []) place.Deleted cause.Reset) (list_any (is_listed_of n) mirror.activities) (tried_still o stamp book n (place.Scheduled ∷ []) place.Deleted cause.Reset quiet_reset))
    (removed_still o stamp mirror ns (removed stamp mirror book n))

inserted_still : (o : ℕ) (stamp : Stamp) (v : Verification) (activities : List ℕ) (book : Book) → StillTold o book (inserted stamp v activities book)
inserted_still o stamp v activities book = by_tests (is_completed v) (is_failed v)
  where
    places : List Place
    places = place.Riding ∷ place.Doubtful ∷ []

    by_tests : (done fails : Bool) → StillTold o book (if done then followed stamp book activities places place.Scheduled cause.Insert else (if fails then followed stamp book activities places place.Failed cause.Insert else book))
    by_tests true fails = followed_still o stamp book activities places place.Scheduled cause.Insert quiet_insert
    by_tests false true = followed_still o stamp book activities places place.Failed cause.Insert quiet_insert
    by_tests false false = same_still o book

besides_still : (o : ℕ) (stamp : Stamp) (mirror : MirrorState) (v : Verification) (given : Command) (book : Book) → StillTold o book (besides stamp mirror v given book)
besides_still o stamp mirror v (command.Plain service subtype) book = same_still o book
besides_still o stamp mirror v command.EnableSchedule book = same_still o book
besides_still o stamp mirror v command.DisableSchedule book = same_still o book
besides_still o stamp mirror v command.ResetSchedule book = if_still o book (emptied stamp mirror book) (is_completed v) (removed_still o stamp mirror (numbers_from 1 book.requests) book)
besides_still o stamp mirror v (command.InsertActivities rides) book = inserted_still o stamp v (map ridden rides) book
besides_still o stamp mirror v (command.DeleteActivity target) book =
    if_still o book (deleted stamp target book) (is_completed v) (tried_still o stamp book target (place.Riding ∷ place.Scheduled ∷ place.Doubtful ∷ []) place.Deleted cause.Delete quiet_delete)
besides_still o stamp mirror v (command.ShiftActivity target offset) book = same_still o book
besides_still o stamp mirror v (command.ShiftAll offset) book = same_still o book
besides_still o stamp mirror v command.SummarizeAll book = same_still o book

besides_at_still : (o : ℕ) (stamp : Stamp) (mirror : MirrorState) (v : Verification) (request : Option Request) (book : Book) → StillTold o book (besides_at stamp mirror v request book)
besides_at_still o stamp mirror v None book = same_still o book
besides_at_still o stamp mirror v (Some request) book = besides_still o stamp mirror v request.body.command book

verified_still : (o : ℕ) (stamp : Stamp) (mirror : MirrorState) (book : Book) (n : ℕ) (v : Verification) → StillTold o book (besides_at stamp mirror v (request_at book n) (reported stamp book n (stage_of_verification v)))
verified_still o stamp mirror book n v =
    then_still o book (reported stamp book n (stage_of_verification v)) (besides_at stamp mirror v (request_at book n) (reported stamp book n (stage_of_verification v)))
    (reported_still o stamp book n (stage_of_verification v)) (besides_at_still o stamp mirror v (request_at book n) (reported stamp book n (stage_of_verification v)))

-- ---- what is told

pub still_told : (o : ℕ) (old new : Book) (sent confirmed : List ℕ) → StillTold o old new → AreTold o old sent confirmed → AreTold o new sent confirmed
still_told o old new sent confirmed still told = record {
  few = still.few told.few;
  transmits = still.transmits told.few ∙ told.transmits;
  confirms = subst (λ l. IsSublist l confirmed) (sym (still.confirms told.few)) told.confirms;
}

-- nothing was sent or confirmed
told_nothing : (o : ℕ) (book : Book) (sent confirmed : List ℕ) → AreTold o book sent confirmed → AreTold o book (sent ++ []) (confirmed ++ [])
told_nothing o book sent confirmed told =
    subst (λ l. AreTold o book l (confirmed ++ [])) (sym (append-nil sent)) (subst (AreTold o book sent) (sym (append-nil confirmed)) told)

-- a request that waits is sent, and has its row
sends_told : (o : ℕ) (stamp : Stamp) (book : Book) (n : ℕ) (sent confirmed : List ℕ) → stands book n (place.Queued ∷ []) ≡ true → AreTold o book sent confirmed
    → AreTold o (tried stamp book n (place.Queued ∷ []) place.Sent cause.Transmit) (sent ++ n ∷ []) (confirmed ++ [])
sends_told o stamp book n sent confirmed here told =
    let row : Move = row_of stamp book.history (want n place.Sent cause.Transmit) in
    let after : Book = moved stamp book (want n place.Sent cause.Transmit) in
    let same : confirm_rows o after ≡ confirm_rows o book = moved_behind cause.Confirm o book.history (row ∷ []) told.few ∙ append-nil (confirm_rows o book) in
    let does : AreTold o after (sent ++ n ∷ []) (confirmed ++ []) = record {
      few = more_rows o book.history row told.few;
      transmits = moved_behind cause.Transmit o book.history (row ∷ []) told.few ∙ ap (λ l. l ++ n ∷ []) told.transmits;
      confirms = subst (λ l. IsSublist l (confirmed ++ [])) (sym same) (subst (IsSublist (confirm_rows o book)) (sym (append-nil confirmed)) told.confirms);
    } in
    subst (λ t. AreTold o (if t then after else book) (sent ++ n ∷ []) (confirmed ++ [])) (sym here) does

-- a request is confirmed, and has its row where no report overtook that
confirms_told : (o : ℕ) (stamp : Stamp) (book : Book) (n : ℕ) (sent confirmed : List ℕ) → AreTold o book sent confirmed
    → AreTold o (tried stamp book n (place.Sent ∷ []) place.Confirmed cause.Confirm) (sent ++ []) (confirmed ++ n ∷ [])
confirms_told o stamp book n sent confirmed told = by_test (stands book n (place.Sent ∷ []))
  where
    row : Move
    row = row_of stamp book.history (want n place.Confirmed cause.Confirm)

    after : Book
    after = moved stamp book (want n place.Confirmed cause.Confirm)

    by_test : (t : Bool) → AreTold o (if t then after else book) (sent ++ []) (confirmed ++ n ∷ [])
    by_test true = record {
      few = more_rows o book.history row told.few;
      transmits = moved_behind cause.Transmit o book.history (row ∷ []) told.few ∙ append-nil (transmit_rows o book) ∙ told.transmits ∙ sym (append-nil sent);
      confirms = subst (λ l. IsSublist l (confirmed ++ n ∷ [])) (sym (moved_behind cause.Confirm o book.history (row ∷ []) told.few))
          (sublist_both (confirm_rows o book) confirmed (n ∷ []) (n ∷ []) told.confirms (IsSublist-same (n ∷ [])));
    }
    by_test false = record {
      few = told.few;
      transmits = told.transmits ∙ sym (append-nil sent);
      confirms = subst (λ l. IsSublist l (confirmed ++ n ∷ [])) (append-nil (confirm_rows o book)) (sublist_both (confirm_rows o book) confirmed [] (n ∷ []) told.confirms (sublist_of_front [] (n ∷ [])));
    }

-- what the book hears is told
pub hears_told : (o : ℕ) (stamp : Stamp) (mirror : MirrorState) (i : LinkIndication) (book : Book) (waits sent confirmed : List ℕ)
    → Waits book (leaves_said i ++ waits) → AreTold o book sent confirmed → AreTold o (heard stamp mirror book i) (sent ++ sent_said i) (confirmed ++ confirmed_said i)
hears_told o stamp mirror (said.Farm v) book waits sent confirmed w told = told_nothing o book sent confirmed told
hears_told o stamp mirror said.Lost book waits sent confirmed w told = told_nothing o book sent confirmed told
hears_told o stamp mirror (said.Transmitted frame) book waits sent confirmed w told = told_nothing o book sent confirmed told
hears_told o stamp mirror (said.Received (report.Word word)) book waits sent confirmed w told = told_nothing o book sent confirmed told
hears_told o stamp mirror (said.Received (report.Telemetry (telemetry.Summary summary))) book waits sent confirmed w told = told_nothing o book sent confirmed told
hears_told o stamp mirror (said.Received (report.Telemetry (telemetry.Verification v n identity))) book waits sent confirmed w told =
    let after : Book = besides_at stamp mirror v (request_at book n) (reported stamp book n (stage_of_verification v)) in
    told_nothing o after sent confirmed (still_told o book after sent confirmed (verified_still o stamp mirror book n v) told)
hears_told o stamp mirror (said.Fop (signal.Alert kind)) book waits sent confirmed w told = told_nothing o book sent confirmed told
hears_told o stamp mirror (said.Fop signal.Started) book waits sent confirmed w told = told_nothing o book sent confirmed told
hears_told o stamp mirror (said.Fop (signal.Confirmed n)) book waits sent confirmed w told = confirms_told o stamp book n sent confirmed told
hears_told o stamp mirror (said.Fop (signal.InDoubt n)) book waits sent confirmed w told =
    let after : Book = tried_with stamp book n (place.Sent ∷ []) place.Doubtful cause.Doubt in
    told_nothing o after sent confirmed (still_told o book after sent confirmed (tried_with_still o stamp book n (place.Sent ∷ []) place.Doubtful cause.Doubt (record { transmits = refl; confirms = refl })) told)
hears_told o stamp mirror (said.Fop (signal.GivenBack n)) book waits sent confirmed w told =
    let after : Book = tried_with stamp book n (place.Queued ∷ []) place.Approved cause.GiveBack in
    told_nothing o after sent confirmed (still_told o book after sent confirmed (tried_with_still o stamp book n (place.Queued ∷ []) place.Approved cause.GiveBack (record { transmits = refl; confirms = refl })) told)
hears_told o stamp mirror (said.Fop (signal.Sent n)) book waits sent confirmed w told = sends_told o stamp book n sent confirmed w.0 told
