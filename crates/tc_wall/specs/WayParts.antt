-- The ways: a row for each request that is open.
use Rattle.std.specs.Prelude.{ℕ, ◌-◌, nat_lt, if◌then◌else◌, Option, Some, None, List, [], ◌∷◌, ◌++◌, codes, take}
use Rattle.std.specs.List.{flat_map}
use Rattle.tc_types.specs.declared.history.places.Place.{Place}
use Rattle.tc_types.specs.declared.requests.Command.{Command}
use Rattle.tc_types.specs.declared.requests.Command.TheVariants.{Plain, EnableSchedule, DisableSchedule, ResetSchedule, InsertActivities, DeleteActivity, ShiftActivity, ShiftAll, SummarizeAll}
use Rattle.tc_types.specs.declared.requests.Identity.{Identity}
use Rattle.tc_types.specs.declared.requests.Origin.{Origin}
use Rattle.tc_wall.specs.declared.axes.Mark.{Mark}
use Rattle.tc_wall.specs.declared.axes.TheConstants.{WIDTH}
use Rattle.tc_wall.specs.declared.walls.Way.{Way}
use Rattle.tc_wall.specs.declared.walls.Wall.{Wall}
use Rattle.tc_wall.specs.declared.walls.TheConstants.{MOST_OPEN, MOST_STAGES}
use Rattle.tc_wall.specs.declared.fixed.TheConstants.{WAYS, WAYS_HEAD}
use Rattle.tc_wall.specs.Parts.{Part, Fixed, Number, Time, PlaceWord, Row, Person, fixed}
use Rattle.tc_wall.specs.Signs.{sign_of}
use Rattle.tc_wall.specs.Bounds.{none_parts, left_out_parts}
use Rattle.tc_wall.specs.Urgents.{critical_parts}
use Rattle.tc_wall.specs.Axis.{drawn, axis_of, lines_of}
use Rattle.tc_wall.specs.Bars.{bar_parts}

-- a command's service and subtype
abbrev pub service_of : Command → ℕ
service_of (Plain service subtype) = service
service_of other = 11

abbrev pub subtype_of : Command → ℕ
subtype_of (Plain service subtype) = subtype
subtype_of EnableSchedule = 1
subtype_of DisableSchedule = 2
subtype_of ResetSchedule = 3
subtype_of (InsertActivities rides) = 4
subtype_of (DeleteActivity target) = 5
subtype_of (ShiftActivity target offset) = 7
subtype_of (ShiftAll offset) = 15
subtype_of SummarizeAll = 17

-- the row begins: its number
unfoldable pub row_begins : ℕ → Place → List Part
row_begins n place = Row n place ∷ Fixed (codes "<td><b>") ∷ Number n ∷ Fixed (codes "</b></td>") ∷ []

-- APID/COUNT, and SERVICE/SUBTYPE
unfoldable pub identity_parts : Identity → List Part
identity_parts identity = Fixed (codes "<td>") ∷ Number identity.apid ∷ Fixed (codes "/") ∷ Number identity.count ∷ Fixed (codes "</td>") ∷ []

unfoldable pub command_parts : Command → List Part
command_parts command =
    Fixed (codes "<td>") ∷ Number (service_of command) ∷ Fixed (codes "/") ∷ Number (subtype_of command) ∷ Fixed (codes "</td><td>") ∷ []

-- how many moves there are before those that are drawn
unfoldable pub earlier_parts : ℕ → List Part
earlier_parts moved =
    if nat_lt MOST_STAGES moved then Fixed (codes " ") ∷ Number (moved - MOST_STAGES) ∷ Fixed (codes " moves before") ∷ [] else []

unfoldable pub author_parts : List ℕ → List Part
author_parts author = Fixed (codes "</td><td class=\"by\">") ∷ Person author ∷ Fixed (codes "</td><td class=\"by\">") ∷ []

-- the stack that it came with, and its line there
unfoldable pub origin_parts : Option Origin → List Part
origin_parts None = []
origin_parts (Some origin) = Person origin.stack ∷ Fixed (codes " ") ∷ Number origin.line ∷ []

unfoldable pub bar_begins : List Part
bar_begins =
    Fixed (codes "</td><td class=\"bar\"><svg viewBox=\"0 0 ") ∷ Number WIDTH
    ∷ Fixed (codes " 10\" preserveAspectRatio=\"none\"><use href=\"#ticks\"/>") ∷ []

-- where it stands, with its sign
unfoldable pub place_parts : Place → List Part
place_parts place =
    Fixed (codes "</svg></td><td class=\"place\">") ∷ Fixed (sign_of place) ∷ Fixed (codes " ") ∷ PlaceWord place ∷ Fixed (codes "</td></tr>\n") ∷ []

-- who it is, and who entered it
unfoldable pub request_parts : Way → List Part
request_parts way =
    row_begins way.request.number way.place ++ identity_parts way.request.body.identity ++ command_parts way.request.body.command
    ++ critical_parts way.request.critical ++ earlier_parts way.moved ++ author_parts way.request.author ++ origin_parts way.request.origin

unfoldable pub way_parts : List Mark → Way → List Part
way_parts axis way = request_parts way ++ bar_begins ++ bar_parts axis 0 (drawn way) ++ place_parts way.place

-- the time of a line of the axis, and the line itself
unfoldable pub label_parts : Mark → List Part
label_parts line =
    Fixed (codes "<b style=\"left:calc(100% * ") ∷ Number line.x ∷ Fixed (codes " / ") ∷ Number WIDTH ∷ Fixed (codes ")\">") ∷ Time line.moment
    ∷ Fixed (codes "</b>\n") ∷ []

unfoldable pub tick_parts : Mark → List Part
tick_parts line = Fixed (codes "M") ∷ Number line.x ∷ Fixed (codes " 0V10") ∷ []

unfoldable pub ticks_begin : List Part
ticks_begin =
    Fixed (codes "</div><svg viewBox=\"0 0 ") ∷ Number WIDTH
    ∷ Fixed (codes " 10\" preserveAspectRatio=\"none\" class=\"lines\"><path id=\"ticks\" d=\"") ∷ []

unfoldable pub axis_parts : List Mark → List Part
axis_parts lines =
    fixed WAYS_HEAD.now ++ flat_map label_parts lines ++ ticks_begin ++ flat_map tick_parts lines
    ++ fixed (codes "\"/></svg></th><th>Stands at</th></tr></thead>\n<tbody>\n")

unfoldable pub table_parts : List Way → List Part
table_parts [] = []
table_parts (way ∷ others) =
    axis_parts (lines_of (axis_of (way ∷ others))) ++ flat_map (way_parts (axis_of (way ∷ others))) (way ∷ others) ++ fixed (codes "</tbody>\n</table>\n")

unfoldable pub ways_parts : Wall → List Part
ways_parts b =
    fixed WAYS.now ++ table_parts (take MOST_OPEN b.ways.now) ++ none_parts b.opened (codes "No request is open.") ++ left_out_parts b.opened MOST_OPEN
    ++ fixed (codes "</section>\n")
