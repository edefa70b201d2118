-- Who flies on its own and who rides inside an insert: no request does both.
use Rattle.std.specs.Prelude.{◌≡◌, ℕ, ◌==◌, false, List, [], ◌∷◌, ◌++◌}
use Rattle.std.specs.List.{list_any, flat_map}
use Rattle.tc_types.specs.declared.history.places.Place.{Place}
use Rattle.tc_types.specs.declared.history.places.Place.TheVariants.{Riding, Scheduled, Accepted, Started, Completed, Failed, Doubtful, Deleted, Closed}
use Rattle.tc_world.specs.Kept.{Each}
use Rattle.tc_book.specs.Book.{Book}
use Rattle.tc_desk.specs.Commands.{activities_at}
use Rattle.tc_desk.specs.Places.{StandsAt}

-- the places of an activity whose insert has left the desk
abbrev pub riding_places : List Place
riding_places = Riding ∷ Scheduled ∷ Accepted ∷ Started ∷ Completed ∷ Failed ∷ Doubtful ∷ Deleted ∷ Closed ∷ []

-- the activities of those of these requests that are inserts
abbrev pub carried_by : Book → List ℕ → List ℕ
carried_by book requests = flat_map (activities_at book) requests

-- none of these is one of those
abbrev pub NoneIsOf : List ℕ → List ℕ → Type 0
NoneIsOf others ns = Each (λ (n : ℕ). list_any (λ (m : ℕ). m == n) others ≡ false) ns

-- of the requests that wait, and of those that were transmitted in some session
pub record AreApart (book : Book) (waiting transmitted : List ℕ) : Type 0 where
  -- an activity that rides stands nowhere from where it may be released
  pub riders : Each (StandsAt riding_places book) (carried_by book transmitted)
  pub next_riders : Each (StandsAt riding_places book) (carried_by book waiting)
  -- and it was not transmitted on its own, and rides in one insert
  pub apart : NoneIsOf transmitted (carried_by book transmitted)
  pub next_apart : NoneIsOf (transmitted ++ carried_by book transmitted) (carried_by book waiting)
