-- What the wall shows of a book, and of a desk; and the pages of both.
use Rattle.std.specs.Prelude.{◌≡◌, ℕ, None, Some, IsSomeAnd, List, drop, length, map, take}
use Rattle.tc_types.specs.declared.link.frames.Frame.{Frame}
use Rattle.tc_types.specs.declared.link.reports.Report.{Report}
use Rattle.tc_types.specs.History.{counts_of}
use Rattle.tc_book.specs.Book.{Book}
use Rattle.tc_world.specs.Links.{Kind}
use Rattle.tc_desk.specs.State.{State}
use Rattle.tc_desk.specs.StatusLines.{status_of}
use Rattle.tc_urgent.specs.declared.kinds.UrgentKind.TheVariants.{FailedSince}
use Rattle.tc_urgent.specs.declared.lines.UrgentLine.{UrgentLine}
use Rattle.tc_urgent.specs.Kinds.{urgency}
use Rattle.tc_urgent.specs.Pages.{AreUrgent}
use Rattle.tc_wall.specs.declared.walls.Wall.{Wall}
use Rattle.tc_wall.specs.declared.walls.Live.{Live}
use Rattle.tc_wall.specs.declared.walls.Opening.{Opening}
use Rattle.tc_wall.specs.declared.walls.TheConstants.{MOST_LINES, MOST_OPEN}
use Rattle.tc_wall.specs.Page.{wall_page}
use Rattle.tc_view.specs.Links.{IsScheduleOf, link_of}
use Rattle.tc_view.specs.Urgents as urgents
use Rattle.tc_view.specs.Urgents.{count_of, row_of, scheduled_in, scheduled_on}
use Rattle.tc_view.specs.Ways.{AreWaysOf, open_of}

-- A wall shows a book of which so many moves stood at the opening, and these requests are on board: how many requests were entered and stand at each
-- place; the first lines of what is open by urgency, how many lines there are, how many of each kind are left out, and how many requests failed after the
-- opening; the ways of the first requests that are open, by urgency, and how many are; and all moves.
pub record ShowsBook (book : Book) (stood : ℕ) (scheduled : List ℕ) (wall : Wall) : Type 0 where
  pub shown : List UrgentLine
  pub by_urgency : AreUrgent book stood scheduled shown
  pub entered : wall.entered ≡ length book.requests
  pub counts : wall.counts.now ≡ counts_of book.history
  pub urgent : wall.urgent.now ≡ map (row_of book) (take MOST_LINES shown)
  pub lines : wall.lines ≡ length shown
  pub left : wall.left.now ≡ urgents.counts_of (drop MOST_LINES shown)
  pub failed : wall.failed ≡ count_of shown (urgency FailedSince)
  pub ways : AreWaysOf book (take MOST_OPEN (open_of book by_urgency.lines)) wall.ways.now
  pub opened : wall.opened ≡ length (open_of book by_urgency.lines)
  pub moves : wall.moves.now ≡ book.history
  pub moved : wall.moved ≡ length book.history

-- what is told of a desk that is open: what the questions `link` and `schedule` are answered
pub record ShowsLive {U D : Type 0} (up : Kind U Frame) (down : Kind D Report) (desk : State U D) (live : Live) : Type 0 where
  pub link : live.link ≡ link_of (status_of up down desk)
  pub schedule : IsScheduleOf desk.mirror live.schedule

-- a wall shows a desk that is open, and how it was opened; the activities that it shows are on board
pub record ShowsDesk {U D : Type 0} (up : Kind U Frame) (down : Kind D Report) (opening : Opening) (desk : State U D) (wall : Wall) : Type 0 where
  pub shown : ShowsBook desk.book opening.stood (scheduled_on wall.live) wall
  pub opened : wall.opening ≡ Some opening
  pub live : IsSomeAnd wall.live (ShowsLive up down desk)

-- A wall shows the book of a file that nobody has open: nothing tells of its opening, so none of its requests is said to have failed after it, and each
-- request at Scheduled counts as on board.
pub record ShowsFile (book : Book) (wall : Wall) : Type 0 where
  pub shown : ShowsBook book (length book.history) (scheduled_in book) wall
  pub opened : wall.opening ≡ None
  pub live : wall.live ≡ None

-- the page of an open desk, and that of a file that nobody has open
pub record IsDeskPage {U D : Type 0} (up : Kind U Frame) (down : Kind D Report) (opening : Opening) (desk : State U D) (page : List ℕ) : Type 0 where
  pub wall : Wall
  pub shows : ShowsDesk up down opening desk wall
  pub bytes : page ≡ wall_page wall

pub record IsFilePage (book : Book) (page : List ℕ) : Type 0 where
  pub wall : Wall
  pub shows : ShowsFile book wall
  pub bytes : page ≡ wall_page wall
