-- The page: its parts, in order.
use Rattle.std.specs.Prelude.{ℕ, ◌+◌, ◌&&◌, nat_le, if◌then◌else◌, Option, Some, None, List, [], ◌++◌, codes}
use Rattle.tc_wall.specs.declared.walls.Live.{Live}
use Rattle.tc_wall.specs.declared.walls.Wall.{Wall}
use Rattle.tc_wall.specs.declared.pages.TheConstants.{MOST_FEW}
use Rattle.tc_wall.specs.declared.fixed.TheConstants.{HEAD, STYLE, POLICY, STRICT, LIVE, SCRIPT, FOOT}
use Rattle.tc_wall.specs.Parts.{Part, fixed, shown_all}
use Rattle.tc_wall.specs.Heading.{heading_parts}
use Rattle.tc_wall.specs.Tiles.{tiles_parts}
use Rattle.tc_wall.specs.Urgents.{urgents_parts}
use Rattle.tc_wall.specs.LinkParts.{link_parts, closed_link_parts}
use Rattle.tc_wall.specs.ScheduleParts.{known_schedule_parts, closed_schedule_parts}
use Rattle.tc_wall.specs.WayParts.{ways_parts}
use Rattle.tc_wall.specs.MoveParts.{moves_parts}

-- how many activities the on-board schedule has; that of a closed file tells of none
abbrev pub laid_in : Option Live → ℕ
laid_in None = 0
laid_in (Some live) = live.schedule.laid_in

-- where there are few rows, the letters are large
unfoldable pub size_word : Wall → List ℕ
size_word b = if nat_le b.opened MOST_FEW && nat_le (b.lines + laid_in b.live) MOST_FEW then codes "few" else codes "many"

-- One script runs on the page of an open desk, and no other: it asks for the page again. Without scripts the browser does. On that of a closed file
-- nothing runs.
unfoldable pub live_script_parts : List Part
live_script_parts =
    fixed (codes "<meta http-equiv=\"Content-Security-Policy\" content=\"") ++ fixed POLICY.now ++ fixed LIVE.now ++ fixed SCRIPT.now ++ fixed (codes "</script>\n")

abbrev pub script_parts : Option Live → List Part
script_parts None = fixed STRICT.now
script_parts (Some live) = live_script_parts

unfoldable pub head_parts : Wall → List Part
head_parts b =
    fixed HEAD.now ++ fixed STYLE.now ++ fixed (codes "</style>\n") ++ script_parts b.live
    ++ fixed (codes "</head>\n<body class=\"") ++ fixed (size_word b) ++ fixed (codes "\">\n")

-- the link and the schedule
unfoldable pub live_parts : Option Live → List Part
live_parts None = closed_link_parts ++ closed_schedule_parts
live_parts (Some live) = link_parts live.link ++ known_schedule_parts live.schedule

unfoldable pub page : Wall → List Part
page b =
    head_parts b ++ heading_parts b ++ tiles_parts b.counts.now b.failed ++ urgents_parts b ++ live_parts b.live ++ ways_parts b ++ moves_parts b ++ fixed FOOT.now

unfoldable pub wall_page : Wall → List ℕ
wall_page b = shown_all (page b)
