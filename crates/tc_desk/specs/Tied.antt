-- What ties the book to the link. The link refuses a request that waits or was sent; so that no act meets this, who waits or
-- was sent stands at no place from which it may be released.
use Rattle.std.specs.Prelude.{ℕ, List, [], ◌∷◌}
use Rattle.tc_types.specs.declared.history.places.Place.TheVariants.{Queued}
use Rattle.tc_fop.specs.Requests.{waiting_requests}
use Rattle.tc_world.specs.Kept.{Each}
use Rattle.tc_world.specs.Window.{all_confirmed}
use Rattle.tc_world.specs.World.{Whole, all_sent}
use Rattle.tc_book.specs.Book.{Book}
use Rattle.tc_desk.specs.Riders.{AreApart}
use Rattle.tc_desk.specs.Rows.{AreTold}
use Rattle.tc_desk.specs.State.{State}
pub use Rattle.tc_desk.specs.Places.{gone_places, StandsAt}

-- Of the requests that wait, of those that were transmitted in some session, and of those that were confirmed, with a book of
-- which so many rows stood once the desk was made.
pub record AreTied (opened : ℕ) (book : Book) (waiting transmitted confirmed : List ℕ) : Type 0 where
  -- each that waits stands at Queued, so that it goes to Sent, or back to Approved, as it leaves the queue
  pub waits : Each (StandsAt (Queued ∷ []) book) waiting
  -- each that was transmitted never returns to where it may be released, so that it is offered once
  pub sent : Each (StandsAt gone_places book) transmitted
  -- nobody who rides inside one of these flies on its own
  pub apart : AreApart book waiting transmitted
  -- the rows tell of the transmissions and confirmations
  pub rows : AreTold opened book transmitted confirmed

abbrev pub AreTiedTo : {U D : Type 0} → ℕ → Book → Whole U D → Type 0
AreTiedTo opened book w = AreTied opened book (waiting_requests w.fop) (all_sent w) (all_confirmed w)

abbrev pub IsTied : {U D : Type 0} → ℕ → State U D → Type 0
IsTied opened at = AreTiedTo opened at.book at.world
