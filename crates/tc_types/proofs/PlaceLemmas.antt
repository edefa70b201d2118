-- A place has its number alone.
use Rattle.std.proofs.Common.{◌≡◌, ℕ, ◌-◌, slice_get, Option, Some, refl, sym, ap, ◌∙◌}
use Rattle.tc_types.specs.declared.history.places.Place.{Place}
use Rattle.tc_types.specs.declared.history.places.Place.TheVariants.{Entered, Approved, Queued, Sent, Confirmed, Riding, Scheduled, Accepted, Started, Completed, Failed, Doubtful, Withdrawn, Deleted, Closed}
use Rattle.tc_types.specs.Lawful.{place_number, all_places}

-- the place with a number, if it is any's
place_with : ℕ → Option Place
place_with n = slice_get all_places (n - 1)

there : (place : Place) → place_with (place_number place) ≡ Some place
unfolding place_with
there Entered = refl
there Approved = refl
there Queued = refl
there Sent = refl
there Confirmed = refl
there Riding = refl
there Scheduled = refl
there Accepted = refl
there Started = refl
there Completed = refl
there Failed = refl
there Doubtful = refl
there Withdrawn = refl
there Deleted = refl
there Closed = refl

some_same : {a b : Place} → ◌≡◌ {A = Option Place} (Some a) (Some b) → a ≡ b
some_same e = cc

pub same_number : (a b : Place) → place_number a ≡ place_number b → a ≡ b
same_number a b e = some_same (sym (there a) ∙ ap place_with e ∙ there b)
