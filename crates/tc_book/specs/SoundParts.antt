-- Which tables a desk could have written, in three parts: the history and the requests with what is read from them, the approvals and the
-- persons, and the log.
use Rattle.std.specs.Prelude.{◌≡◌, ◌≤◌, true, IfSome, List, [], length, map, count_by}
use Rattle.std.specs.List.{AllByRecursion, flat_map}
use Rattle.tc_types.specs.declared.history.causes.Cause.TheVariants.{Approve}
use Rattle.tc_types.specs.declared.history.moves.Move.{Move}
use Rattle.tc_types.specs.declared.requests.Request.{Request}
use Rattle.tc_types.specs.declared.tables.rows.StackApproval.{StackApproval}
use Rattle.tc_types.specs.History.{IsGoodHistory, AllAfter, entered, count_at}
use Rattle.tc_types.specs.Tables.{Image, tallies_by}
use Rattle.tc_types.specs.Limits.{most_requests, most_stacks}
use Rattle.tc_stack.specs.Approvals.{IsApproval}
use Rattle.tc_proc.specs.GoodLogs.{NamesEntered}
use Rattle.tc_book.specs.Cargoes.{alone, cargo_of}
use Rattle.tc_book.specs.Good.{IsGoodRequest}
use Rattle.tc_book.specs.Opening.{HasNumbers}
use Rattle.tc_book.specs.Persons.{NamesPersons}
use Rattle.tc_book.specs.Sound.{book_of}
use Rattle.tc_book.specs.Stacks.{has_stack, stack_approval_at, is_fully_approved, stacks_of, begins_stack}
use Rattle.tc_book.specs.Tables.{placed}

-- these are the requests that the tables tell of, and each may follow those before it
pub record AreToldRequests (image : Image) (requests : List Request) : Type 0 where
  pub told : requests ≡ (book_of image).requests
  pub good : AllAfter IsGoodRequest [] requests

-- the history is good; the requests' places and the tallies are as it leaves them; and the rows of an opening still find numbers
pub record IsSoundPast (image : Image) : Type 0 where
  pub history : IsGoodHistory image.moves
  pub placed : image.requests ≡ map (placed image.moves) (map alone (book_of image).requests)
  pub tallied : image.tallies ≡ tallies_by (count_at image.moves)
  pub numbers : HasNumbers (book_of image)

-- each request may follow those before it, there are no more of them, and no more stacks, than a desk takes, the table of stacks says
-- which they came with, and the rows of cargo which activities they name behind the first
pub record HasSoundRequests (image : Image) : Type 0 where
  pub requests : AllAfter IsGoodRequest [] (book_of image).requests
  pub few : length (book_of image).requests ≤ most_requests
  pub few_stacks : count_by begins_stack (book_of image).requests ≤ most_stacks
  pub stacks : image.stacks ≡ stacks_of (book_of image).requests
  pub cargo : image.cargo ≡ flat_map cargo_of (book_of image).requests

-- both, and the history enters the requests
pub record IsSoundStart (image : Image) : Type 0 where
  pub past : IsSoundPast image
  pub requests : HasSoundRequests image
  pub entered : entered image.moves ≡ map (λ (r : Request). r.number) (book_of image).requests

-- the approvals of stacks are as they can be; who was moved to Approved by its approvers has all that are wanted; the steps of the log
-- name requests that were entered; and those who are named are persons
pub record IsSoundRest (image : Image) : Type 0 where
  pub stacks_named : AllByRecursion (λ (a : StackApproval). has_stack a.stack (book_of image).requests ≡ true) image.stack_approvals
  pub stacks_approved : AllByRecursion (λ (a : StackApproval). IfSome (stack_approval_at (book_of image) a.stack) IsApproval) image.stack_approvals
  pub complete : AllByRecursion (λ (m : Move). m.cause ≡ Approve → is_fully_approved (book_of image) m.request ≡ true) image.moves
  pub log_named : NamesEntered (length (book_of image).requests) (book_of image).log
  pub persons : NamesPersons (book_of image)
