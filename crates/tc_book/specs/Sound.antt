-- Which tables a desk could have written, so that one may be opened over them (this desk's own).
use Rattle.std.specs.Prelude.{◌≡◌, Result, IfErr, OnOk, map}
use Rattle.std.specs.List.{flat_map}
use Rattle.tc_types.specs.declared.tables.rows.PlacedRequest.{PlacedRequest}
use Rattle.tc_types.specs.History.{count_at}
use Rattle.tc_types.specs.Tables.{Image, tallies_by}
use Rattle.tc_proc.specs.declared.faults.ReopenFault.{ReopenFault}
use Rattle.tc_proc.specs.declared.faults.ReopenFault.TheVariants.{Unsound}
use Rattle.tc_book.specs.Book.{Book}
use Rattle.tc_book.specs.Cargoes.{alone, cargo_of, joined}
use Rattle.tc_book.specs.Good.{IsGoodBook}
use Rattle.tc_book.specs.Stacks.{stacks_of}
use Rattle.tc_book.specs.Tables.{placed}

-- the book that these tables tell of: each request with what its rows of cargo tell, and without what is read from others of the tables
abbrev pub book_of : Image → Book
book_of image = record {
  requests = map (joined image.cargo) (map (λ (p : PlacedRequest). p.request) image.requests);
  history = image.moves;
  approvals = image.approvals;
  stack_approvals = image.stack_approvals;
  log = record { loaded = image.procedures; steps = image.steps; executions = image.executions; records = image.records };
}

-- Tables that a desk could have written: the book that they tell of is good, and what they say again is as the book has it: each request's
-- row says the place where the history leaves it, and of an insert the first activity alone; each tally says how many stand there, the table
-- of stacks which stacks the requests came with, and the rows of cargo which other activities the inserts name, insert by insert. So they
-- are the tables of a good book, and those of each good book are such (`laws`).
pub record IsSound (image : Image) : Type 0 where
  pub book : IsGoodBook (book_of image)
  pub placed : image.requests ≡ map (placed image.moves) (map alone (book_of image).requests)
  pub tallied : image.tallies ≡ tallies_by (count_at image.moves)
  pub stacks : image.stacks ≡ stacks_of (book_of image).requests
  pub cargo : image.cargo ≡ flat_map cargo_of (book_of image).requests

-- what is read from tables that were left has this part of being sound, and where it is found unsound no desk could have written them
pub record Judges {X : Type 0} (image : Image) (part : Type 0) (result : Result X ReopenFault) : Type 0 where
  pub sound : OnOk result part
  pub unsound : IfErr result (λ why. why ≡ Unsound → ¬ IsSound image)
