-- What the rows that came since a desk was made say of its link.
use Rattle.std.specs.Prelude.{◌≡◌, ℕ, ◌==◌, ◌≤◌, List, length, map, filter, drop}
use Rattle.tc_types.specs.declared.history.causes.Cause.{Cause}
use Rattle.tc_types.specs.declared.history.causes.Cause.TheVariants.{Transmit, Confirm}
use Rattle.tc_types.specs.declared.history.moves.Move.{Move}
use Rattle.tc_types.specs.Lawful.{cause_number}
use Rattle.tc_world.specs.Sublist.{IsSublist}
use Rattle.tc_book.specs.Book.{Book}

-- the requests of the rows with this cause, in order
abbrev pub moved_for : Cause → List Move → List ℕ
moved_for why rows = map (λ (row : Move). row.request) (filter (λ (row : Move). cause_number row.cause == cause_number why) rows)

-- those that were transmitted, by the rows that came once so many stood
abbrev pub transmit_rows : ℕ → Book → List ℕ
transmit_rows opened book = moved_for Transmit (drop opened book.history)

-- those that were confirmed, likewise
abbrev pub confirm_rows : ℕ → Book → List ℕ
confirm_rows opened book = moved_for Confirm (drop opened book.history)

-- Of what was transmitted and confirmed over the link: each transmission has its row, in order, and each row of a confirmation
-- was confirmed, in order. A request whose report overtook its confirmation has no such row.
pub record AreTold (opened : ℕ) (book : Book) (transmitted confirmed : List ℕ) : Type 0 where
  pub few : opened ≤ length book.history
  pub transmits : transmit_rows opened book ≡ transmitted
  pub confirms : IsSublist (confirm_rows opened book) confirmed
