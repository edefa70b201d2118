-- What is open, most urgent first: a row for each line, and how many lines of each kind are left out.
use Rattle.std.specs.Prelude.{ℕ, ◌-◌, ◌/◌, ◌%◌, Bool, nat_lt, if◌then◌else◌, Option, Some, None, List, [], ◌∷◌, ◌++◌, codes, slice_index, take}
use Rattle.std.specs.List.{flat_map}
use Rattle.tc_types.specs.declared.waits.Waiting.{Waiting}
use Rattle.tc_types.specs.declared.waits.Waiting.TheVariants as waiting
use Rattle.tc_urgent.specs.declared.kinds.UrgentKind.{UrgentKind}
use Rattle.tc_urgent.specs.declared.lines.OnBoard.{OnBoard}
use Rattle.tc_urgent.specs.declared.lines.UrgentLine.{UrgentLine}
use Rattle.tc_wall.specs.declared.walls.UrgentRow.{UrgentRow}
use Rattle.tc_wall.specs.declared.walls.Wall.{Wall}
use Rattle.tc_wall.specs.declared.walls.TheConstants.{MOST_LINES}
use Rattle.tc_wall.specs.declared.fixed.TheConstants.{URGENT}
use Rattle.tc_wall.specs.Parts.{Part, Fixed, Number, Line, Person, fixed}
use Rattle.tc_wall.specs.Bounds.{none_parts}
use Rattle.tc_wall.specs.Kinds.{kind_begins}
use Rattle.tc_wall.specs.Waits.{says_parts, text_of}

-- ---- what the line is of

unfoldable pub subject_parts : UrgentKind → ℕ → List Part
subject_parts kind n = Line kind n ∷ Fixed (kind_begins kind) ∷ Number n ∷ []

-- how many further lines it stands for
unfoldable pub same_parts : ℕ → List Part
same_parts same = if nat_lt 0 same then Fixed (codes " <b>and ") ∷ Number same ∷ Fixed (codes " more</b>") ∷ [] else []

-- the procedure of an execution; the stack of a request
abbrev pub group_of : Option Waiting → Option (List ℕ) → Option (List ℕ)
group_of (Some (waiting.Step execution procedure step is_countersigned)) stack = Some procedure
group_of other stack = stack

unfoldable pub group_parts : Option (List ℕ) → List Part
group_parts None = []
group_parts (Some name) = Fixed (codes " of ") ∷ Person name ∷ []

-- what is critical has a sign
unfoldable pub critical_parts : Bool → List Part
critical_parts critical = if critical then Fixed (codes "<em>&#9650; critical</em>") ∷ [] else []

-- a space before the sign
unfoldable pub marked_parts : Bool → List Part
marked_parts critical = if critical then fixed (codes " ") ++ critical_parts critical else []

-- APID/COUNT, and SERVICE/SUBTYPE
unfoldable pub on_board_parts : Option OnBoard → List Part
on_board_parts None = fixed (codes "</td><td></td><td></td><td>")
on_board_parts (Some b) =
    Fixed (codes "</td><td>") ∷ Number b.identity.apid ∷ Fixed (codes "/") ∷ Number b.identity.count ∷ Fixed (codes "</td><td>") ∷ Number b.service
    ∷ Fixed (codes "/") ∷ Number b.subtype ∷ Fixed (codes "</td><td>") ∷ []

unfoldable pub begin_parts : UrgentRow → List Part
begin_parts row =
    subject_parts row.line.kind row.line.number ++ same_parts row.line.same ++ group_parts (group_of row.waiting row.line.stack)
    ++ marked_parts row.critical ++ on_board_parts row.line.on_board

-- ---- for how long it stands so

-- so many of a unit, and the rest in a smaller one
unfoldable pub two_parts : ℕ → List ℕ → ℕ → List ℕ → List Part
two_parts n unit less small = Number n ∷ Fixed unit ∷ Number less ∷ Fixed small ∷ []

-- seconds; minutes; hours and minutes; days and hours
unfoldable pub waited_parts : ℕ → List Part
waited_parts seconds =
    if nat_lt seconds 60 then Number seconds ∷ Fixed (codes " s") ∷ []
    else (if nat_lt seconds 3600 then Number (seconds / 60) ∷ Fixed (codes " min") ∷ []
    else (if nat_lt seconds 86400 then two_parts (seconds / 3600) (codes " h ") (seconds % 3600 / 60) (codes " min")
    else two_parts (seconds / 86400) (codes " d ") (seconds % 86400 / 3600) (codes " h")))

-- the steps of an execution are no moves
abbrev pub age_parts : Option OnBoard → ℕ → List Part
age_parts None seconds = []
age_parts (Some b) seconds = waited_parts seconds

-- ---- the rows, and what is left out

unfoldable pub urgent_parts : UrgentRow → List Part
urgent_parts row =
    begin_parts row ++ says_parts row.line.kind row.waiting (text_of row.text) ++ fixed (codes "</td><td>")
    ++ age_parts row.line.on_board row.line.waited ++ fixed (codes "</td></tr>\n")

-- so many lines of a kind are left out, if some are
unfoldable pub left_parts : ℕ → List ℕ → List Part
left_parts count words =
    if nat_lt 0 count then Fixed (codes "<p class=\"more\">lines left out: ") ∷ Number count ∷ Fixed (codes " ") ∷ Fixed words ∷ Fixed (codes "</p>\n") ∷ [] else []

unfoldable pub left_first_parts : List ℕ → List Part
left_first_parts left =
    left_parts (slice_index left 0) (codes "in doubt")
    ++ left_parts (slice_index left 1) (codes "failed")
    ++ left_parts (slice_index left 2) (codes "wait for approval")
    ++ left_parts (slice_index left 3) (codes "step due")
    ++ left_parts (slice_index left 4) (codes "on the way")

unfoldable pub left_last_parts : List ℕ → List Part
left_last_parts left =
    left_parts (slice_index left 5) (codes "report lost")
    ++ left_parts (slice_index left 6) (codes "free to release")
    ++ left_parts (slice_index left 7) (codes "activities")
    ++ left_parts (slice_index left 8) (codes "locked for ever")
    ++ left_parts (slice_index left 9) (codes "locked")

unfoldable pub urgents_parts : Wall → List Part
urgents_parts b =
    fixed URGENT.now ++ flat_map urgent_parts (take MOST_LINES b.urgent.now) ++ fixed (codes "</tbody>\n</table>\n")
    ++ none_parts b.lines (codes "Nothing is open.") ++ left_first_parts b.left.now ++ left_last_parts b.left.now ++ fixed (codes "</section>\n")
