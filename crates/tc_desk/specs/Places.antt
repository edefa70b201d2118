-- Where the requests stand that wait, and those that were sent.
use Rattle.std.specs.Prelude.{◌≡◌, ℕ, true, List, [], ◌∷◌}
use Rattle.tc_types.specs.declared.history.places.Place.{Place}
use Rattle.tc_types.specs.declared.history.places.Place.TheVariants.{Sent, Confirmed, Scheduled, Accepted, Started, Completed, Failed, Doubtful, Deleted, Closed}
use Rattle.tc_book.specs.Book.{Book, stands}

-- the places of a request that was sent
abbrev pub gone_places : List Place
gone_places = Sent ∷ Confirmed ∷ Scheduled ∷ Accepted ∷ Started ∷ Completed ∷ Failed ∷ Doubtful ∷ Deleted ∷ Closed ∷ []

abbrev pub StandsAt : List Place → Book → ℕ → Type 0
StandsAt places book n = stands book n places ≡ true
