-- The rows of a book: what its tables hold, and nothing else.
use Rattle.std.specs.Prelude.{List, map, unwrap_or}
use Rattle.std.specs.List.{flat_map}
use Rattle.tc_types.specs.declared.history.places.Place.TheVariants.{Entered}
use Rattle.tc_types.specs.declared.history.moves.Move.{Move}
use Rattle.tc_types.specs.declared.requests.Request.{Request}
use Rattle.tc_types.specs.declared.tables.rows.PlacedRequest.{PlacedRequest}
use Rattle.tc_types.specs.History.{place_of, count_at}
use Rattle.tc_types.specs.Tables.{Image, tallies_by}
use Rattle.tc_book.specs.Book.{Book}
use Rattle.tc_book.specs.Cargoes.{alone, cargo_of}
use Rattle.tc_book.specs.Stacks.{stacks_of}

-- a request where the history leaves it: at Entered, if no row moves it
abbrev pub placed : List Move → Request → PlacedRequest
placed history request = record { request = request; place = unwrap_or (place_of history request.number) Entered }

abbrev pub image_of : Book → Image
image_of book = record {
  requests = map (placed book.history) (map alone book.requests);
  moves = book.history;
  tallies = tallies_by (count_at book.history);
  approvals = book.approvals;
  stacks = stacks_of book.requests;
  stack_approvals = book.stack_approvals;
  procedures = book.log.loaded;
  steps = book.log.steps;
  executions = book.log.executions;
  records = book.log.records;
  cargo = flat_map cargo_of book.requests;
}
