-- What the types of a wall keep: its numbers are in their ranges, and its texts are short.
use Rattle.std.specs.Prelude.{ℕ, ◌-◌, ◌<◌, ◌≤◌, ◌^◌, IfSome, List, length, take, slice_get}
use Rattle.std.specs.List.{AllByRecursion}
use Rattle.tc_types.specs.declared.history.moves.Move.{Move}
use Rattle.tc_types.specs.declared.requests.Origin.{Origin}
use Rattle.tc_types.specs.declared.requests.Request.{Request}
use Rattle.tc_types.specs.declared.link.activities.ListedActivity.{ListedActivity}
use Rattle.tc_types.specs.declared.waits.Wanting.{Wanting}
use Rattle.tc_types.specs.declared.waits.Waiting.{Waiting}
use Rattle.tc_types.specs.declared.waits.Waiting.TheVariants as waiting
use Rattle.tc_urgent.specs.declared.kinds.UrgentKind.{UrgentKind}
use Rattle.tc_urgent.specs.declared.lines.OnBoard.{OnBoard}
use Rattle.tc_urgent.specs.declared.lines.UrgentLine.{UrgentLine}
use Rattle.tc_urgent.specs.Kinds.{insert_in}
use Rattle.tc_wall.specs.declared.walls.UrgentRow.{UrgentRow}
use Rattle.tc_wall.specs.declared.walls.Way.{Way}
use Rattle.tc_wall.specs.declared.walls.ShownSchedule.{ShownSchedule}
use Rattle.tc_wall.specs.declared.walls.Live.{Live}
use Rattle.tc_wall.specs.declared.walls.Opening.{Opening}
use Rattle.tc_wall.specs.declared.walls.Wall.{Wall}
use Rattle.tc_wall.specs.declared.walls.TheConstants.{MOST_OPEN, MOST_LINES, MOST_MOVES, MOST_SHOWN_ACTIVITIES}
use Rattle.tc_wall.specs.declared.links.FopLine.{FopLine}
use Rattle.tc_wall.specs.declared.links.FarmLine.{FarmLine}
use Rattle.tc_wall.specs.declared.links.LinkLines.{LinkLines}
use Rattle.tc_wall.specs.Bounds.{last_of}
use Rattle.tc_wall.specs.Waits.{text_of}
use Rattle.tc_wall.specs.WayParts.{service_of, subtype_of}

-- the most bytes of a name
abbrev pub IsShort : List ℕ → Type 0
IsShort name = length name ≤ 16

pub record IsMoveInRange (row : Move) : Type 0 where
  pub seq : row.seq < 2 ^ 32
  pub request : row.request < 2 ^ 32
  pub person : IsShort row.by

pub record IsWantingInRange (w : Wanting) : Type 0 where
  pub author : IsShort w.author
  pub given : IfSome w.by IsShort

abbrev pub IsWaitingInRange : Waiting → Type 0
IsWaitingInRange (waiting.Request n approval) = (n < 2 ^ 32) × IsWantingInRange approval
IsWaitingInRange (waiting.Stack stack approval rows first) = IsShort stack × IsWantingInRange approval × (rows < 2 ^ 32) × (first < 2 ^ 32)
IsWaitingInRange (waiting.Free n) = n < 2 ^ 32
IsWaitingInRange (waiting.Locked n lock) = (n < 2 ^ 32) × (lock.line < 2 ^ 32) × IsShort lock.stack
IsWaitingInRange (waiting.Doubtful n) = n < 2 ^ 32
IsWaitingInRange (waiting.Step execution procedure step is_countersigned) = (execution < 2 ^ 32) × IsShort procedure × (step < 2 ^ 32)

pub record IsOnBoardInRange (b : OnBoard) : Type 0 where
  pub apid : b.identity.apid < 2 ^ 16
  pub count : b.identity.count < 2 ^ 16
  pub service : b.service < 2 ^ 8
  pub subtype : b.subtype < 2 ^ 8

pub record IsLineInRange (line : UrgentLine) : Type 0 where
  pub number : line.number < 2 ^ 32
  pub insert : insert_in line.kind < 2 ^ 32
  pub on_board : IfSome line.on_board IsOnBoardInRange
  pub stack : IfSome line.stack IsShort
  pub waited : line.waited < 2 ^ 32
  pub same : line.same < 2 ^ 32

pub record IsUrgentInRange (row : UrgentRow) : Type 0 where
  pub line : IsLineInRange row.line
  pub waits : IfSome row.waiting IsWaitingInRange
  pub text : length (text_of row.text) ≤ 80

pub record IsOriginInRange (origin : Origin) : Type 0 where
  pub stack : IsShort origin.stack
  pub line : origin.line < 2 ^ 32

pub record IsRequestInRange (r : Request) : Type 0 where
  pub number : r.number < 2 ^ 32
  pub apid : r.body.identity.apid < 2 ^ 16
  pub count : r.body.identity.count < 2 ^ 16
  pub service : service_of r.body.command < 2 ^ 8
  pub subtype : subtype_of r.body.command < 2 ^ 8
  pub author : IsShort r.author
  pub origin : IfSome r.origin IsOriginInRange

pub record IsWayInRange (way : Way) : Type 0 where
  pub request : IsRequestInRange way.request
  pub moved : way.moved < 2 ^ 64

pub record AreQueuesInRange (f : FopLine) : Type 0 where
  pub sent : f.sent < 2 ^ 16
  pub waits : f.waiting < 2 ^ 16
  pub count : f.count < 2 ^ 16
  pub k : f.k < 2 ^ 16
  pub limit : f.limit < 2 ^ 16

pub record AreCountersInRange (f : FopLine) : Type 0 where
  pub vs : f.vs < 2 ^ 16
  pub nn : f.nn < 2 ^ 16
  pub timer : f.timer < 2 ^ 16
  pub t1 : f.t1 < 2 ^ 16

pub record IsFopInRange (f : FopLine) : Type 0 where
  pub queues : AreQueuesInRange f
  pub counters : AreCountersInRange f

pub record IsFarmInRange (f : FarmLine) : Type 0 where
  pub vr : f.vr < 2 ^ 16
  pub farm_b : f.farm_b < 2 ^ 16
  pub window : f.window < 2 ^ 16

pub record IsLinkInRange (l : LinkLines) : Type 0 where
  pub fop : IsFopInRange l.fop
  pub farm : IsFarmInRange l.farm
  pub up : l.up < 2 ^ 64
  pub down : l.down < 2 ^ 64

pub record IsActivityInRange (it : ListedActivity) : Type 0 where
  pub apid : it.identity.apid < 2 ^ 16
  pub count : it.identity.count < 2 ^ 16

pub record IsScheduleInRange (s : ShownSchedule) : Type 0 where
  pub activities : AllByRecursion IsActivityInRange (take MOST_SHOWN_ACTIVITIES s.activities.now)
  pub laid_in : s.laid_in < 2 ^ 64

pub record IsOpeningInRange (opening : Opening) : Type 0 where
  pub stood : opening.stood < 2 ^ 64

pub record IsLiveInRange (live : Live) : Type 0 where
  pub link : IsLinkInRange live.link
  pub schedule : IsScheduleInRange live.schedule

pub record IsLastInRange (row : Move) : Type 0 where
  pub seq : row.seq < 2 ^ 32
  pub moment : row.moment < 2 ^ 32

pub record IsWallInRange (b : Wall) : Type 0 where
  pub entered : b.entered < 2 ^ 32
  pub counts : AllByRecursion (λ n. n < 2 ^ 32) b.counts.now
  pub urgent : AllByRecursion IsUrgentInRange (take MOST_LINES b.urgent.now)
  pub lines_count : b.lines < 2 ^ 64
  pub left : AllByRecursion (λ n. n < 2 ^ 64) b.left.now
  pub opening : IfSome b.opening IsOpeningInRange
  pub live : IfSome b.live IsLiveInRange
  pub ways : AllByRecursion IsWayInRange (take MOST_OPEN b.ways.now)
  pub ways_count : b.opened < 2 ^ 64
  pub last : IfSome (slice_get b.moves.now (length b.moves.now - 1)) IsLastInRange
  pub moves : AllByRecursion IsMoveInRange (last_of MOST_MOVES b.moves.now)
  pub moves_count : b.moved < 2 ^ 64
