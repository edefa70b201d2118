-- The first of them are there.
use Rattle.std.proofs.Common.{List, take}
use Rattle.tc_types.specs.declared.requests.Request.{Request}
use Rattle.tc_book.specs.Book.{Book}
use Rattle.tc_view.specs.Gathered.{AreTrailsOf}
use Rattle.tc_view.specs.Ways.{AreWaysOf}
use Rattle.tc_view.proofs.trails.ways_of.Given as goal

abbrev pub invariant-loop-trail : goal.invariant-loop-trail
invariant-loop-trail g l = (book : Book) (requests : List Request) → AreTrailsOf book requests (take l.trail-index l.trails) → AreWaysOf book requests l.ways.items
