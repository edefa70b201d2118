-- Only an entry changes the requests of a book: what it hears and what is released leave them.
use Rattle.std.proofs.Common.{◌≡◌, ℕ, Bool, true, false, if◌then◌else◌, Option, Some, None, List, [], ◌∷◌, refl, ◌∙◌}
use Rattle.tc_types.specs.declared.history.places.Place.{Place}
use Rattle.tc_types.specs.declared.history.places.Place.TheVariants as place
use Rattle.tc_types.specs.declared.history.causes.Cause.{Cause}
use Rattle.tc_types.specs.declared.history.causes.Cause.TheVariants as cause
use Rattle.tc_types.specs.declared.acts.LinkAct.{LinkAct}
use Rattle.tc_types.specs.declared.acts.LinkAct.TheVariants as act
use Rattle.tc_fop.specs.declared.signals.Indication.TheVariants as signal
use Rattle.tc_world.specs.declared.events.LinkIndication.{LinkIndication}
use Rattle.tc_world.specs.declared.events.LinkIndication.TheVariants as said
use Rattle.tc_board.specs.Mirror.{MirrorState}
use Rattle.tc_book.specs.declared.stamps.Stamp.{Stamp}
use Rattle.tc_book.specs.Book.{Book, stands, moved, want}
use Rattle.tc_desk.specs.Acts.{released, released_beside}
use Rattle.tc_desk.specs.Commands.{activities_at}
use Rattle.tc_desk.specs.Effects.{tried, followed, tried_with, heard, heard_all}
use Rattle.tc_desk.proofs.RiderMoves.{received_riders, sent_riders, confirmed_riders, doubted_riders}

-- a step that is made or not
if_requests : (book after : Book) (t : Bool) → after.requests ≡ book.requests → (if t then after else book).requests ≡ book.requests
if_requests book after true same = same
if_requests book after false same = refl

pub followed_requests : (stamp : Stamp) (book : Book) (activities : List ℕ) (places : List Place) (to : Place) (c : Cause) → (followed stamp book activities places to c).requests ≡ book.requests
followed_requests stamp book [] places to c = refl
followed_requests stamp book (n ∷ activities) places to c =
    followed_requests stamp (tried stamp book n places to c) activities places to c ∙ if_requests book (moved stamp book (want n to c)) (stands book n places) refl

tried_with_requests : (stamp : Stamp) (book : Book) (n : ℕ) (places : List Place) (to : Place) (c : Cause) → (tried_with stamp book n places to c).requests ≡ book.requests
tried_with_requests stamp book n places to c =
    let after : Book = moved stamp book (want n to c) in
    if_requests book (followed stamp after (activities_at book n) (place.Riding ∷ []) to c) (stands book n places) (followed_requests stamp after (activities_at book n) (place.Riding ∷ []) to c)

heard_requests : (stamp : Stamp) (mirror : MirrorState) (book : Book) (i : LinkIndication) → (heard stamp mirror book i).requests ≡ book.requests
heard_requests stamp mirror book (said.Fop (signal.Sent n)) = (sent_riders stamp book n).requests
heard_requests stamp mirror book (said.Fop (signal.Confirmed n)) = (confirmed_riders stamp book n).requests
heard_requests stamp mirror book (said.Fop (signal.GivenBack n)) = tried_with_requests stamp book n (place.Queued ∷ []) place.Approved cause.GiveBack
heard_requests stamp mirror book (said.Fop (signal.InDoubt n)) = (doubted_riders stamp book n).requests
heard_requests stamp mirror book (said.Fop (signal.Alert kind)) = refl
heard_requests stamp mirror book (said.Fop signal.Started) = refl
heard_requests stamp mirror book (said.Farm verdict) = refl
heard_requests stamp mirror book (said.Received item) = (received_riders stamp mirror book item).requests
heard_requests stamp mirror book said.Lost = refl
heard_requests stamp mirror book (said.Transmitted frame) = refl

-- what the book hears leaves its requests
pub heard_all_requests : (stamp : Stamp) (mirror : MirrorState) (all : List LinkIndication) (book : Book) → (heard_all stamp mirror all book).requests ≡ book.requests
heard_all_requests stamp mirror [] book = refl
heard_all_requests stamp mirror (i ∷ all) book = heard_all_requests stamp mirror all (heard stamp mirror book i) ∙ heard_requests stamp mirror book i

-- so do an act's own rows
pub released_requests : (stamp : Stamp) (given : LinkAct) (book : Book) → (released stamp given book).requests ≡ book.requests
released_requests stamp (act.Release n) book = followed_requests stamp (moved stamp book (want n place.Queued cause.Release)) (activities_at book n) (place.Approved ∷ []) place.Riding cause.Release
released_requests stamp (act.Direct given) book = refl
released_requests stamp act.Tick book = refl
released_requests stamp act.Up book = refl
released_requests stamp (act.LoseUp place) book = refl
released_requests stamp (act.LoseDown place) book = refl
released_requests stamp act.Clcw book = refl
released_requests stamp act.Down book = refl
released_requests stamp act.Work book = refl
released_requests stamp (act.Clock time) book = refl

-- and those of a release that comes with a record, if one does
pub beside_requests : (stamp : Stamp) (beside : Option ℕ) (book : Book) → (released_beside stamp beside book).requests ≡ book.requests
beside_requests stamp None book = refl
beside_requests stamp (Some n) book = released_requests stamp (act.Release n) book
