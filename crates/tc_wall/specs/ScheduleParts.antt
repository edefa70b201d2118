-- The on-board schedule, as the reports that were read tell it; that of a closed file is closed.
use Rattle.std.specs.Prelude.{ℕ, Bool, if◌then◌else◌, List, [], ◌∷◌, ◌++◌, codes, take}
use Rattle.std.specs.List.{flat_map}
use Rattle.tc_types.specs.declared.link.activities.ListedActivity.{ListedActivity}
use Rattle.tc_wall.specs.declared.walls.ShownSchedule.{ShownSchedule}
use Rattle.tc_wall.specs.declared.walls.TheConstants.{MOST_SHOWN_ACTIVITIES}
use Rattle.tc_wall.specs.declared.fixed.TheConstants.{SCHEDULE}
use Rattle.tc_wall.specs.Parts.{Part, Fixed, Number, Time, fixed}
use Rattle.tc_wall.specs.Bounds.{left_out_parts}

unfoldable pub enabled_word : Bool → List ℕ
enabled_word enabled = if enabled then codes "enabled" else codes "disabled"

unfoldable pub enabled_parts : Bool → ℕ → List Part
enabled_parts enabled count =
    Fixed (codes "<p class=\"none\"><b>") ∷ Fixed (enabled_word enabled) ∷ Fixed (codes "</b>, activities: ") ∷ Number count
    ∷ Fixed (codes "</p>\n<ul>\n") ∷ []

-- APID/COUNT and its time
unfoldable pub activity_parts : ListedActivity → List Part
activity_parts it =
    Fixed (codes "<li><b>") ∷ Number it.identity.apid ∷ Fixed (codes "/") ∷ Number it.identity.count ∷ Fixed (codes "</b> ") ∷ Time it.time
    ∷ Fixed (codes "</li>\n") ∷ []

unfoldable pub known_schedule_parts : ShownSchedule → List Part
known_schedule_parts s =
    fixed SCHEDULE.now ++ enabled_parts s.enabled s.laid_in ++ flat_map activity_parts (take MOST_SHOWN_ACTIVITIES s.activities.now)
    ++ fixed (codes "</ul>\n") ++ left_out_parts s.laid_in MOST_SHOWN_ACTIVITIES ++ fixed (codes "</section>\n")

abbrev pub closed_schedule_parts : List Part
closed_schedule_parts = fixed SCHEDULE.now ++ fixed (codes "<p class=\"none\">closed</p>\n</section>\n")
