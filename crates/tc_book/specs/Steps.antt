-- What acts on the book, and loads, do to it one step after the other: a request is entered, a person moves one, or somebody approves.
use Rattle.std.specs.Prelude.{◌≡◌, ◌⊎◌, ℕ, true, Option, List, [], ◌∷◌}
use Rattle.tc_types.specs.declared.history.places.Place.TheVariants.{Entered, Approved, Confirmed, Riding, Scheduled, Accepted, Started, Doubtful, Withdrawn, Closed}
use Rattle.tc_types.specs.declared.history.causes.Cause.TheVariants as cause
use Rattle.tc_types.specs.declared.requests.Form.{Form}
use Rattle.tc_types.specs.declared.requests.Origin.{Origin}
use Rattle.tc_book.specs.declared.stamps.Stamp.{Stamp}
use Rattle.tc_book.specs.Book.{Book, stands, want, moved, with_request}
use Rattle.tc_book.specs.Good.{IsGoodBook}

-- a request was entered in a good book, by itself or as a row of a stack
pub record HasEntered (stamp : Stamp) (old new : Book) : Type 0 where
  pub good : IsGoodBook old
  pub origin : Option Origin
  pub entry : Form
  pub is : new ≡ with_request stamp old origin entry

-- a person withdrew a request, or closed it, or its approvers moved it
pub record HasWithdrawn (stamp : Stamp) (old new : Book) : Type 0 where
  pub request : ℕ
  pub there : stands old request (Entered ∷ Approved ∷ []) ≡ true
  pub is : new ≡ moved stamp old (want request Withdrawn cause.Withdraw)

pub record HasClosed (stamp : Stamp) (old new : Book) : Type 0 where
  pub request : ℕ
  pub there : stands old request (Confirmed ∷ Riding ∷ Scheduled ∷ Accepted ∷ Started ∷ Doubtful ∷ []) ≡ true
  pub is : new ≡ moved stamp old (want request Closed cause.Close)

pub record HasApproved (stamp : Stamp) (old new : Book) : Type 0 where
  pub request : ℕ
  pub there : stands old request (Entered ∷ []) ≡ true
  pub is : new ≡ moved stamp old (want request Approved cause.Approve)

-- somebody approved a request or a stack, and nothing else changed
pub record HasNoted (old new : Book) : Type 0 where
  pub requests : new.requests ≡ old.requests
  pub history : new.history ≡ old.history

abbrev pub IsStep : Stamp → Book → Book → Type 0
IsStep stamp old new = HasEntered stamp old new ⊎ HasWithdrawn stamp old new ⊎ HasClosed stamp old new ⊎ HasApproved stamp old new ⊎ HasNoted old new

-- one step after the other, over these books
abbrev pub StepsOver : Stamp → Book → List Book → Book → Type 0
StepsOver stamp old [] new = new ≡ old
StepsOver stamp old (book ∷ books) new = IsStep stamp old book × StepsOver stamp book books new

pub record HasSteps (stamp : Stamp) (old new : Book) : Type 0 where
  pub over : List Book
  pub steps : StepsOver stamp old over new
