-- A release keeps the tie between book and link.
use Rattle.std.proofs.Common.{◌≡◌, ℕ, ◌<◌, false, List, [], ◌∷◌, refl}
use Rattle.std.specs.List.{list_any}
use Rattle.tc_types.specs.declared.history.places.Place.TheVariants as place
use Rattle.tc_types.specs.declared.history.causes.Cause.TheVariants as cause
use Rattle.tc_types.specs.declared.acts.LinkAct.TheVariants as link_act
use Rattle.tc_world.specs.Kept.{Each}
use Rattle.tc_book.specs.declared.stamps.Stamp.{Stamp}
use Rattle.tc_book.specs.Book.{Book, place_in, moved, want}
use Rattle.tc_desk.specs.Commands.{activities_at, may_not_ride}
use Rattle.tc_desk.specs.Acts.{released}
use Rattle.tc_desk.specs.Places.{gone_places, StandsAt}
use Rattle.tc_desk.specs.Tied.{AreTied}
use Rattle.tc_desk.proofs.PlaceLemmas.{not_there}
use Rattle.tc_desk.proofs.RiderLemmas.{released_apart}
use Rattle.tc_desk.proofs.TiedLemmas.{each_map, moved_keeps, moved_there, BothKept, then_kept, follow_kept}
use Rattle.tc_desk.proofs.RowLemmas.{StillTold, then_still, moved_still, followed_still, still_told}

-- a request that is released: it waits, or is told at once; and its activities ride
own_released : (stamp : Stamp) (book : Book) (n : ℕ) → StandsAt (place.Approved ∷ []) book n → BothKept book (released stamp (link_act.Release n) book)
own_released stamp book n here =
    let after : Book = moved stamp book (want n place.Queued cause.Release) in
    then_kept book after (released stamp (link_act.Release n) book)
    (record {
      waits = λ m. moved_keeps stamp book n place.Queued cause.Release (place.Queued ∷ []) m (λ h. refl);
      sent = λ m. moved_keeps stamp book n place.Queued cause.Release gone_places m (not_there place.Approved gone_places (place_in book n) place.Queued here refl);
    })
    (follow_kept stamp after (activities_at book n) place.Approved place.Riding cause.Release refl refl)

released_waits : (stamp : Stamp) (book : Book) (n : ℕ) → StandsAt (place.Queued ∷ []) (released stamp (link_act.Release n) book) n
released_waits stamp book n =
    let after : Book = moved stamp book (want n place.Queued cause.Release) in
    let kept = follow_kept stamp after (activities_at book n) place.Approved place.Riding cause.Release refl refl in
    kept.waits n (moved_there stamp book n place.Queued cause.Release (place.Queued ∷ []) refl)

released_still : (o : ℕ) (stamp : Stamp) (book : Book) (n : ℕ) → StillTold o book (released stamp (link_act.Release n) book)
released_still o stamp book n =
    let after : Book = moved stamp book (want n place.Queued cause.Release) in
    then_still o book after (released stamp (link_act.Release n) book)
    (moved_still o stamp book n place.Queued cause.Release (record { transmits = refl; confirms = refl }))
    (followed_still o stamp after (activities_at book n) (place.Approved ∷ []) place.Riding cause.Release (record { transmits = refl; confirms = refl }))

-- a request that is released waits
pub released_tied : (o : ℕ) (stamp : Stamp) (book : Book) (n : ℕ) (sent confirmed : List ℕ) → Each (λ (m : ℕ). m < n) (activities_at book n) → StandsAt (place.Approved ∷ []) book n
    → list_any (may_not_ride book) (activities_at book n) ≡ false
    → AreTied o book [] sent confirmed → AreTied o (released stamp (link_act.Release n) book) (n ∷ []) sent confirmed
released_tied o stamp book n sent confirmed before here rides tied =
    let kept = own_released stamp book n here in
    record {
      waits = (released_waits stamp book n, tt);
      sent = each_map _ _ sent kept.sent tied.sent;
      apart = released_apart stamp book n sent before here rides tied.sent tied.apart;
      rows = still_told o book (released stamp (link_act.Release n) book) sent confirmed (released_still o stamp book n) tied.rows;
    }
