-- What the parts of a page tell: the counts of the tiles, and where each request that is open stands.
use Rattle.std.proofs.Common.{◌≡◌, ℕ, Bool, true, false, if◌then◌else◌, codes, nat_lt, Option, Some, None, List, [], ◌∷◌, ◌++◌, map, take, reverse, refl, ap, ap₂, ◌∙◌, append-nil}
use Rattle.std.specs.List.{flat_map, filter}
use Rattle.tc_types.specs.declared.history.places.Place.{Place}
use Rattle.tc_types.specs.declared.history.places.Place.TheVariants.{Entered, Approved, Queued, Sent, Confirmed, Riding, Scheduled, Accepted, Started, Completed, Failed, Doubtful, Withdrawn, Deleted, Closed}
use Rattle.tc_types.specs.declared.history.moves.Move.{Move}
use Rattle.tc_types.specs.declared.requests.Command.{Command}
use Rattle.tc_types.specs.declared.requests.Origin.{Origin}
use Rattle.tc_types.specs.declared.requests.Identity.{Identity}
use Rattle.tc_types.specs.declared.link.activities.ListedActivity.{ListedActivity}
use Rattle.tc_types.specs.declared.waits.Wanting.{Wanting}
use Rattle.tc_types.specs.declared.waits.Waiting.{Waiting}
use Rattle.tc_types.specs.declared.waits.Waiting.TheVariants as waiting
use Rattle.tc_wall.specs.declared.axes.Mark.{Mark}
use Rattle.tc_types.specs.declared.waits.Lock.{Lock}
use Rattle.tc_urgent.specs.declared.kinds.UrgentKind.{UrgentKind}
use Rattle.tc_urgent.specs.declared.kinds.UrgentKind.TheVariants.{InDoubt, FailedSince, Approval, StepDue, Flying, LostReport, Free, ActivityOf, LockedForever, Locked}
use Rattle.tc_urgent.specs.declared.lines.OnBoard.{OnBoard}
use Rattle.tc_wall.specs.declared.walls.UrgentRow.{UrgentRow}
use Rattle.tc_wall.specs.declared.walls.Way.{Way}
use Rattle.tc_wall.specs.declared.walls.Live.{Live}
use Rattle.tc_wall.specs.declared.walls.ShownSchedule.{ShownSchedule}
use Rattle.tc_wall.specs.declared.walls.Wall.{Wall}
use Rattle.tc_wall.specs.declared.walls.TheConstants.{MOST_LINES, MOST_OPEN, MOST_STAGES, MOST_MOVES, MOST_SHOWN_ACTIVITIES}
use Rattle.tc_wall.specs.declared.links.FopLine.{FopLine}
use Rattle.tc_wall.specs.declared.links.FarmLine.{FarmLine}
use Rattle.tc_wall.specs.declared.links.LinkLines.{LinkLines}
use Rattle.tc_wall.specs.Parts.{Part, fixed}
use Rattle.tc_wall.specs.Bounds.{last_of, left_out_parts, none_parts}
use Rattle.tc_wall.specs.declared.walls.Opening.{Opening}
use Rattle.tc_wall.specs.Heading.{file_parts, opened_parts, entered_parts, moved_parts, last_parts, heading_parts}
use Rattle.tc_wall.specs.Tiles.{count_at, tile_begins, tile_label, tile_head_parts, count_parts, next_parts, counts_parts, tile_parts, open_tiles_parts, final_tiles_parts, tiles_parts}
use Rattle.tc_wall.specs.Waits.{activity_parts as insert_parts, approval_parts, approvals_parts, author_parts, forever_parts, line_parts, lock_parts, locked_parts, next_parts as due_parts, other_parts, says_parts, step_parts, text_of, wanting_parts}
use Rattle.tc_wall.specs.Urgents.{age_parts, begin_parts, critical_parts, group_of, group_parts, left_first_parts, left_last_parts, left_parts, marked_parts, on_board_parts, same_parts, subject_parts, two_parts, urgent_parts, urgents_parts, waited_parts}
use Rattle.tc_wall.specs.LinkParts.{worded_parts, number_parts, share_parts, flies_parts, queue_parts, counter_parts, fop_parts, farm_parts, section_begins, premise_parts, link_parts}
use Rattle.tc_wall.specs.ScheduleParts.{enabled_parts, activity_parts, known_schedule_parts}
use Rattle.tc_wall.specs.Axis.{axis_of, lines_of, drawn}
use Rattle.tc_wall.specs.Bars.{stage_parts, begin_of, bar_parts}
use Rattle.tc_wall.specs.WayParts as ways
use Rattle.tc_wall.specs.MoveParts.{who_parts, what_parts, move_parts, moves_parts}
use Rattle.tc_wall.specs.Page.{script_parts, live_script_parts, head_parts, live_parts, page}
use Rattle.tc_wall.specs.Told.{Told, Stand, StandsAt, Says, told, told_all, tile_places, counted, standing, said, is_count_of, is_row, is_line}
use Rattle.tc_wall.proofs.ListLemmas.{flat_map-append}

-- these parts tell this
record Tells (parts : List Part) (facts : List Told) : Type 0 where
  pub is : told_all parts ≡ facts

-- parts behind parts; where one tells nothing, the other tells all
both : (a b : List Part) (x y : List Told) → Tells a x → Tells b y → Tells (a ++ b) (x ++ y)
both a b x y first next = record { is = flat_map-append told a b ∙ ap₂ (λ k l. k ++ l) first.is next.is }

before : (a b : List Part) (x : List Told) → Tells a x → Tells b [] → Tells (a ++ b) x
before a b x first next = record { is = (both a b x [] first next).is ∙ append-nil x }

behind : (a b : List Part) (y : List Told) → Tells a [] → Tells b y → Tells (a ++ b) y
behind a b y first next = both a b [] y first next

quiet : (a b : List Part) → Tells a [] → Tells b [] → Tells (a ++ b) []
quiet a b first next = both a b [] [] first next

quiet_rows : {X : Type 0} (f : X → List Part) (xs : List X) → ((x : X) → Tells (f x) []) → Tells (flat_map f xs) []
quiet_rows f [] h = record { is = refl }
quiet_rows f (x ∷ xs) h = quiet (f x) (flat_map f xs) (h x) (quiet_rows f xs h)

of_fixed : (text : List ℕ) → Tells (fixed text) []
unfolding fixed
of_fixed text = record { is = refl }

of_choice : (b : Bool) (xs ys : List Part) → Tells xs [] → Tells ys [] → Tells (if b then xs else ys) []
of_choice true xs ys first second = first
of_choice false xs ys first second = second

-- ---- bounds, and the heading

of_left_out : (count most : ℕ) → Tells (left_out_parts count most) []
unfolding left_out_parts
of_left_out count most = of_choice (nat_lt most count) _ _ (record { is = refl }) (record { is = refl })

of_none : (count : ℕ) (said : List ℕ) → Tells (none_parts count said) []
unfolding none_parts
of_none count said = of_choice (nat_lt 0 count) _ _ (record { is = refl }) (record { is = refl })

of_opened : (opening : Opening) → Tells (opened_parts opening) []
unfolding opened_parts
of_opened opening = record { is = refl }

of_file : (opening : Option Opening) → Tells (file_parts opening) []
unfolding file_parts
of_file (Some opening) = of_opened opening
of_file None = of_fixed _

of_entered : (entered : ℕ) → Tells (entered_parts entered) []
unfolding entered_parts
of_entered entered = record { is = refl }

of_moved : (row : Move) → Tells (moved_parts row) []
unfolding moved_parts
of_moved row = record { is = refl }

of_last : (last : Option Move) → Tells (last_parts last) []
of_last (Some row) = of_moved row
of_last None = of_fixed _

of_heading : (b : Wall) → Tells (heading_parts b) []
unfolding heading_parts
of_heading b = quiet _ _ (quiet _ _ (quiet _ _ (quiet _ _ (of_fixed _) (of_file b.opening)) (of_entered b.entered)) (of_last _)) (of_fixed _)

-- ---- the tiles

of_tile_head : (kind label : List ℕ) (first : Place) (count : ℕ) → Tells (tile_head_parts kind label first count) []
unfolding tile_head_parts tile_begins tile_label
of_tile_head kind label first count = record { is = refl }

of_count : (counts : List ℕ) (place : Place) → Tells (count_parts counts place) (counted counts place ∷ [])
unfolding count_parts
of_count counts place = record { is = refl }

of_others : (counts : List ℕ) (places : List Place) → Tells (flat_map (next_parts counts) places) (map (counted counts) places)
unfolding next_parts
of_others counts [] = record { is = refl }
of_others counts (place ∷ others) =
    both (fixed (codes ", ") ++ count_parts counts place) _ _ _ (behind (fixed (codes ", ")) (count_parts counts place) _ (of_fixed (codes ", ")) (of_count counts place)) (of_others counts others)

of_counts : (counts : List ℕ) (places : List Place) → Tells (counts_parts counts places) (map (counted counts) places)
unfolding counts_parts
of_counts counts [] = record { is = refl }
of_counts counts (place ∷ others) = both (count_parts counts place) _ _ _ (of_count counts place) (of_others counts others)

of_tile : (counts kind label : List ℕ) (first : Place) (places : List Place) → Tells (tile_parts counts kind label first places) (map (counted counts) places)
unfolding tile_parts
of_tile counts kind label first places = before _ _ _ (behind _ _ _ (of_tile_head kind label first _) (of_counts counts places)) (of_fixed _)

of_tiles : (counts : List ℕ) (failed : ℕ) → Tells (tiles_parts counts failed) (map (counted counts) tile_places)
unfolding tiles_parts open_tiles_parts final_tiles_parts
of_tiles counts failed = before _ _ _ (both _ _ _ _ (behind _ _ _ (of_fixed _)
    (both _ _ _ _ (both _ _ _ _ (both _ _ _ _ (both _ _ _ _ (of_tile counts _ _ _ _) (of_tile counts _ _ _ _)) (of_tile counts _ _ _ _)) (of_tile counts _ _ _ _)) (of_tile counts _ _ _ _)))
    (both _ _ _ _ (both _ _ _ _ (of_tile counts _ _ _ _) (of_tile counts _ _ _ _)) (of_tile counts _ _ _ _))) (of_fixed _)

-- ---- what is open

of_other : (by : Option (List ℕ)) → Tells (other_parts by) []
unfolding other_parts
of_other None = record { is = refl }
of_other (Some person) = record { is = refl }

of_approvals : (w : Wanting) → Tells (approvals_parts w) []
unfolding approvals_parts
of_approvals w = record { is = refl }

of_author : (author : List ℕ) → Tells (author_parts author) []
unfolding author_parts
of_author author = record { is = refl }

of_wanting : (w : Wanting) → Tells (wanting_parts w) []
unfolding wanting_parts
of_wanting w = quiet _ _ (quiet _ _ (of_approvals w) (of_author w.author)) (of_other w.by)

of_approval : (waits : Option Waiting) → Tells (approval_parts waits) []
of_approval None = of_fixed _
of_approval (Some (waiting.Request n approval)) = of_wanting approval
of_approval (Some (waiting.Stack stack approval rows first)) = of_wanting approval
of_approval (Some (waiting.Free n)) = of_fixed _
of_approval (Some (waiting.Locked n lock)) = of_fixed _
of_approval (Some (waiting.Doubtful n)) = of_fixed _
of_approval (Some (waiting.Step execution procedure step is_countersigned)) = of_fixed _

of_due : (step : ℕ) (is_countersigned : Bool) (text : List ℕ) → Tells (due_parts step is_countersigned text) []
unfolding due_parts
of_due step is_countersigned text = record { is = refl }

of_step : (waits : Option Waiting) (text : List ℕ) → Tells (step_parts waits text) []
of_step None text = of_fixed _
of_step (Some (waiting.Request n approval)) text = of_fixed _
of_step (Some (waiting.Stack stack approval rows first)) text = of_fixed _
of_step (Some (waiting.Free n)) text = of_fixed _
of_step (Some (waiting.Locked n lock)) text = of_fixed _
of_step (Some (waiting.Doubtful n)) text = of_fixed _
of_step (Some (waiting.Step execution procedure step is_countersigned)) text = of_due step is_countersigned text

of_line : (lock : Lock) → Tells (line_parts lock) []
unfolding line_parts
of_line lock = record { is = refl }

of_lock : (waits : Option Waiting) → Tells (lock_parts waits) []
of_lock None = record { is = refl }
of_lock (Some (waiting.Request n approval)) = record { is = refl }
of_lock (Some (waiting.Stack stack approval rows first)) = record { is = refl }
of_lock (Some (waiting.Free n)) = record { is = refl }
of_lock (Some (waiting.Locked n lock)) = of_line lock
of_lock (Some (waiting.Doubtful n)) = record { is = refl }
of_lock (Some (waiting.Step execution procedure step is_countersigned)) = record { is = refl }

of_forever : (waits : Option Waiting) → Tells (forever_parts waits) []
unfolding forever_parts
of_forever waits = quiet _ _ (quiet _ _ (of_fixed _) (of_lock waits)) (of_fixed _)

of_locked : (waits : Option Waiting) → Tells (locked_parts waits) []
unfolding locked_parts
of_locked waits = quiet _ _ (quiet _ _ (of_fixed _) (of_lock waits)) (of_fixed _)

of_insert : (insert : ℕ) → Tells (insert_parts insert) []
unfolding insert_parts
of_insert insert = record { is = refl }

of_says : (kind : UrgentKind) (waits : Option Waiting) (text : List ℕ) → Tells (says_parts kind waits text) []
of_says InDoubt waits text = of_fixed _
of_says FailedSince waits text = of_fixed _
of_says Approval waits text = of_approval waits
of_says StepDue waits text = of_step waits text
of_says Flying waits text = of_fixed _
of_says LostReport waits text = of_fixed _
of_says Free waits text = of_fixed _
of_says (ActivityOf insert) waits text = of_insert insert
of_says LockedForever waits text = of_forever waits
of_says Locked waits text = of_locked waits

of_subject : (kind : UrgentKind) (n : ℕ) → Tells (subject_parts kind n) (Says kind n ∷ [])
unfolding subject_parts
of_subject kind n = record { is = refl }

of_same : (same : ℕ) → Tells (same_parts same) []
unfolding same_parts
of_same same = of_choice (nat_lt 0 same) _ _ (record { is = refl }) (record { is = refl })

of_group : (name : Option (List ℕ)) → Tells (group_parts name) []
unfolding group_parts
of_group None = record { is = refl }
of_group (Some name) = record { is = refl }

of_critical : (critical : Bool) → Tells (critical_parts critical) []
unfolding critical_parts
of_critical critical = of_choice critical _ _ (record { is = refl }) (record { is = refl })

of_marked : (critical : Bool) → Tells (marked_parts critical) []
unfolding marked_parts
of_marked critical = of_choice critical _ _ (quiet _ _ (of_fixed _) (of_critical critical)) (record { is = refl })

of_on_board : (b : Option OnBoard) → Tells (on_board_parts b) []
unfolding on_board_parts
of_on_board None = of_fixed _
of_on_board (Some b) = record { is = refl }

of_begin : (row : UrgentRow) → Tells (begin_parts row) (said row ∷ [])
unfolding begin_parts
of_begin row = before _ _ _ (before _ _ _ (before _ _ _ (before _ _ _ (of_subject row.line.kind row.line.number) (of_same row.line.same)) (of_group (group_of row.waiting row.line.stack)))
    (of_marked row.critical)) (of_on_board row.line.on_board)

of_waited : (seconds : ℕ) → Tells (waited_parts seconds) []
unfolding waited_parts two_parts
of_waited seconds = of_choice (nat_lt seconds 60) _ _ (record { is = refl }) (of_choice (nat_lt seconds 3600) _ _ (record { is = refl })
    (of_choice (nat_lt seconds 86400) _ _ (record { is = refl }) (record { is = refl })))

of_age : (b : Option OnBoard) (seconds : ℕ) → Tells (age_parts b seconds) []
of_age None seconds = record { is = refl }
of_age (Some b) seconds = of_waited seconds

of_urgent : (row : UrgentRow) → Tells (urgent_parts row) (said row ∷ [])
unfolding urgent_parts
of_urgent row = before _ _ _ (before _ _ _ (before _ _ _ (before _ _ _ (of_begin row) (of_says row.line.kind row.waiting (text_of row.text))) (of_fixed _))
    (of_age row.line.on_board row.line.waited)) (of_fixed _)

of_urgent_rows : (rows : List UrgentRow) → Tells (flat_map urgent_parts rows) (map said rows)
of_urgent_rows [] = record { is = refl }
of_urgent_rows (row ∷ rows) = both (urgent_parts row) _ _ _ (of_urgent row) (of_urgent_rows rows)

of_left : (count : ℕ) (words : List ℕ) → Tells (left_parts count words) []
unfolding left_parts
of_left count words = of_choice (nat_lt 0 count) _ _ (record { is = refl }) (record { is = refl })

of_left_first : (left : List ℕ) → Tells (left_first_parts left) []
unfolding left_first_parts
of_left_first left = quiet _ _ (quiet _ _ (quiet _ _ (quiet _ _ (of_left _ _) (of_left _ _)) (of_left _ _)) (of_left _ _)) (of_left _ _)

of_left_last : (left : List ℕ) → Tells (left_last_parts left) []
unfolding left_last_parts
of_left_last left = quiet _ _ (quiet _ _ (quiet _ _ (quiet _ _ (of_left _ _) (of_left _ _)) (of_left _ _)) (of_left _ _)) (of_left _ _)

of_urgents : (b : Wall) → Tells (urgents_parts b) (map said (take MOST_LINES b.urgent.now))
unfolding urgents_parts
of_urgents b = before _ _ _ (before _ _ _ (before _ _ _ (before _ _ _ (before _ _ _ (behind _ _ _ (of_fixed _) (of_urgent_rows (take MOST_LINES b.urgent.now))) (of_fixed _))
    (of_none b.lines _)) (of_left_first b.left.now)) (of_left_last b.left.now)) (of_fixed _)

-- ---- the link, and the schedule

of_worded : (name value : List ℕ) → Tells (worded_parts name value) []
unfolding worded_parts
of_worded name value = record { is = refl }

of_number : (name : List ℕ) (n : ℕ) → Tells (number_parts name n) []
unfolding number_parts
of_number name n = record { is = refl }

of_share : (name : List ℕ) (n most : ℕ) → Tells (share_parts name n most) []
unfolding share_parts
of_share name n most = record { is = refl }

of_flies : (up down : ℕ) → Tells (flies_parts up down) []
unfolding flies_parts
of_flies up down = record { is = refl }

of_fop : (f : FopLine) → Tells (fop_parts f) []
unfolding fop_parts queue_parts counter_parts
of_fop f = quiet _ _ (quiet _ _ (quiet _ _ (quiet _ _ (of_worded _ _) (of_share _ _ _)) (of_number _ _)) (of_share _ _ _)) (quiet _ _ (quiet _ _ (of_share _ _ _) (of_number _ _)) (of_number _ _))

of_farm : (f : FarmLine) → Tells (farm_parts f) []
unfolding farm_parts
of_farm f = quiet _ _ (quiet _ _ (quiet _ _ (quiet _ _ (of_worded _ _) (of_number _ _)) (of_number _ _)) (of_worded _ _)) (of_number _ _)

of_section : (clean : Bool) → Tells (section_begins clean) []
unfolding section_begins
of_section clean = record { is = refl }

of_premise : (clean : Bool) → Tells (premise_parts clean) []
unfolding premise_parts
of_premise clean = record { is = refl }

of_link : (l : LinkLines) → Tells (link_parts l) []
unfolding link_parts
of_link l = quiet _ _ (quiet _ _ (quiet _ _ (quiet _ _ (quiet _ _ (of_section l.clean) (of_premise l.clean)) (of_fop l.fop)) (of_farm l.farm)) (of_flies l.up l.down)) (of_fixed _)

of_enabled : (enabled : Bool) (count : ℕ) → Tells (enabled_parts enabled count) []
unfolding enabled_parts
of_enabled enabled count = record { is = refl }

of_activity : (it : ListedActivity) → Tells (activity_parts it) []
unfolding activity_parts
of_activity it = record { is = refl }

of_schedule : (s : ShownSchedule) → Tells (known_schedule_parts s) []
unfolding known_schedule_parts
of_schedule s = quiet _ _ (quiet _ _ (quiet _ _ (quiet _ _ (quiet _ _ (of_fixed _) (of_enabled s.enabled s.laid_in))
    (quiet_rows activity_parts (take MOST_SHOWN_ACTIVITIES s.activities.now) of_activity)) (of_fixed _)) (of_left_out s.laid_in MOST_SHOWN_ACTIVITIES)) (of_fixed _)

of_live : (live : Option Live) → Tells (live_parts live) []
unfolding live_parts
of_live None = quiet _ _ (of_fixed _) (quiet _ _ (of_fixed _) (of_fixed _))
of_live (Some live) = quiet _ _ (of_link live.link) (of_schedule live.schedule)

-- ---- the ways

of_stage : (place : Place) (begin end : ℕ) → Tells (stage_parts place begin end) []
unfolding stage_parts
of_stage place begin end = of_choice (nat_lt begin end) _ _ (record { is = refl }) (record { is = refl })

of_bar : (axis : List Mark) (before : ℕ) (moves : List Move) → Tells (bar_parts axis before moves) []
unfolding bar_parts
of_bar axis before [] = record { is = refl }
of_bar axis before (row ∷ others) = quiet _ _ (of_stage row.to _ _) (of_bar axis (begin_of axis before row) others)

of_row : (n : ℕ) (place : Place) → Tells (ways.row_begins n place) (StandsAt n place ∷ [])
unfolding ways.row_begins
of_row n place = record { is = refl }

of_identity : (identity : Identity) → Tells (ways.identity_parts identity) []
unfolding ways.identity_parts
of_identity identity = record { is = refl }

of_command : (command : Command) → Tells (ways.command_parts command) []
unfolding ways.command_parts
of_command command = record { is = refl }

of_earlier : (moved : ℕ) → Tells (ways.earlier_parts moved) []
unfolding ways.earlier_parts
of_earlier moved = of_choice (nat_lt MOST_STAGES moved) _ _ (record { is = refl }) (record { is = refl })

of_way_author : (author : List ℕ) → Tells (ways.author_parts author) []
unfolding ways.author_parts
of_way_author author = record { is = refl }

of_origin : (origin : Option Origin) → Tells (ways.origin_parts origin) []
unfolding ways.origin_parts
of_origin None = record { is = refl }
of_origin (Some origin) = record { is = refl }

of_bar_begins : Tells ways.bar_begins []
unfolding ways.bar_begins
of_bar_begins = record { is = refl }

of_place : (place : Place) → Tells (ways.place_parts place) []
unfolding ways.place_parts
of_place place = record { is = refl }

of_way_request : (way : Way) → Tells (ways.request_parts way) (standing way ∷ [])
unfolding ways.request_parts
of_way_request way = before _ _ _ (before _ _ _ (before _ _ _ (before _ _ _ (before _ _ _ (before _ _ _ (of_row way.request.number way.place) (of_identity way.request.body.identity))
    (of_command way.request.body.command)) (of_critical way.request.critical)) (of_earlier way.moved)) (of_way_author way.request.author)) (of_origin way.request.origin)

of_way : (axis : List Mark) (way : Way) → Tells (ways.way_parts axis way) (standing way ∷ [])
unfolding ways.way_parts
of_way axis way = before _ _ _ (before _ _ _ (before _ _ _ (of_way_request way) of_bar_begins) (of_bar axis 0 (drawn way))) (of_place way.place)

of_way_rows : (axis : List Mark) (shown : List Way) → Tells (flat_map (ways.way_parts axis) shown) (map standing shown)
of_way_rows axis [] = record { is = refl }
of_way_rows axis (way ∷ others) = both (ways.way_parts axis way) _ _ _ (of_way axis way) (of_way_rows axis others)

of_label : (line : Mark) → Tells (ways.label_parts line) []
unfolding ways.label_parts
of_label line = record { is = refl }

of_tick : (line : Mark) → Tells (ways.tick_parts line) []
unfolding ways.tick_parts
of_tick line = record { is = refl }

of_ticks_begin : Tells ways.ticks_begin []
unfolding ways.ticks_begin
of_ticks_begin = record { is = refl }

of_axis : (lines : List Mark) → Tells (ways.axis_parts lines) []
unfolding ways.axis_parts
of_axis lines = quiet _ _ (quiet _ _ (quiet _ _ (quiet _ _ (of_fixed _) (quiet_rows ways.label_parts lines of_label)) of_ticks_begin) (quiet_rows ways.tick_parts lines of_tick)) (of_fixed _)

of_table : (shown : List Way) → Tells (ways.table_parts shown) (map standing shown)
unfolding ways.table_parts
of_table [] = record { is = refl }
of_table (way ∷ others) =
    before _ _ _ (behind _ _ _ (of_axis (lines_of (axis_of (way ∷ others)))) (of_way_rows (axis_of (way ∷ others)) (way ∷ others))) (of_fixed _)

of_ways : (b : Wall) → Tells (ways.ways_parts b) (map standing (take MOST_OPEN b.ways.now))
unfolding ways.ways_parts
of_ways b =
    before _ _ _ (before _ _ _ (before _ _ _ (behind _ _ _ (of_fixed _) (of_table (take MOST_OPEN b.ways.now))) (of_none b.opened _)) (of_left_out b.opened MOST_OPEN)) (of_fixed _)

-- ---- the moves, and the page

of_move : (row : Move) → Tells (move_parts row) []
unfolding who_parts what_parts
of_move row = record { is = refl }

of_moves : (b : Wall) → Tells (moves_parts b) []
unfolding moves_parts
of_moves b = quiet _ _ (quiet _ _ (quiet _ _ (quiet _ _ (quiet _ _ (of_fixed _)
    (quiet_rows move_parts (reverse (last_of MOST_MOVES b.moves.now)) of_move)) (of_fixed _)) (of_none b.moved _)) (of_left_out b.moved MOST_MOVES)) (of_fixed _)

of_script : (live : Option Live) → Tells (script_parts live) []
unfolding live_script_parts
of_script None = of_fixed _
of_script (Some live) = quiet _ _ (quiet _ _ (quiet _ _ (quiet _ _ (of_fixed _) (of_fixed _)) (of_fixed _)) (of_fixed _)) (of_fixed _)

of_head : (b : Wall) → Tells (head_parts b) []
unfolding head_parts
of_head b = quiet _ _ (quiet _ _ (quiet _ _ (quiet _ _ (quiet _ _ (quiet _ _ (of_fixed _) (of_fixed _)) (of_fixed _)) (of_script b.live)) (of_fixed _)) (of_fixed _)) (of_fixed _)

-- a page tells the count of each place, then each line of what is open, and then where each request that is open stands
abbrev page_tells : Wall → List Told
page_tells b = map (counted b.counts.now) tile_places ++ map said (take MOST_LINES b.urgent.now) ++ map standing (take MOST_OPEN b.ways.now)

of_page : (b : Wall) → Tells (page b) (page_tells b)
unfolding page
of_page b =
    before _ _ _ (before _ _ _ (both _ _ _ _ (before _ _ _ (both _ _ _ _ (behind _ _ _ (quiet _ _ (of_head b) (of_heading b)) (of_tiles b.counts.now b.failed)) (of_urgents b)) (of_live b.live)) (of_ways b)) (of_moves b)) (of_fixed _)

-- ---- what is looked for in it

filter-append : {X : Type 0} (p : X → Bool) (xs ys : List X) → filter p (xs ++ ys) ≡ filter p xs ++ filter p ys
filter-append p [] ys = refl
filter-append p (x ∷ xs) ys = by (p x) (filter-append p xs ys)
  where
    by : (b : Bool) → filter p (xs ++ ys) ≡ filter p xs ++ filter p ys → (if b then x ∷ filter p (xs ++ ys) else filter p (xs ++ ys)) ≡ (if b then x ∷ filter p xs else filter p xs) ++ filter p ys
    by true h = ap (λ l. x ∷ l) h
    by false h = h

no_counts : (place : Place) (shown : List Way) → filter (is_count_of place) (map standing shown) ≡ []
no_counts place [] = refl
no_counts place (way ∷ others) = no_counts place others

no_counts_said : (place : Place) (rows : List UrgentRow) → filter (is_count_of place) (map said rows) ≡ []
no_counts_said place [] = refl
no_counts_said place (row ∷ rows) = no_counts_said place rows

all_rows : (shown : List Way) → filter is_row (map standing shown) ≡ map standing shown
all_rows [] = refl
all_rows (way ∷ others) = ap (λ l. standing way ∷ l) (all_rows others)

no_rows_said : (rows : List UrgentRow) → filter is_row (map said rows) ≡ []
no_rows_said [] = refl
no_rows_said (row ∷ rows) = no_rows_said rows

all_lines : (rows : List UrgentRow) → filter is_line (map said rows) ≡ map said rows
all_lines [] = refl
all_lines (row ∷ rows) = ap (λ l. said row ∷ l) (all_lines rows)

no_lines_stand : (shown : List Way) → filter is_line (map standing shown) ≡ []
no_lines_stand [] = refl
no_lines_stand (way ∷ others) = no_lines_stand others

-- what is looked for in each of the three
parted : (p : Told → Bool) (b : Wall) → filter p (told_all (page b))
    ≡ filter p (map (counted b.counts.now) tile_places) ++ filter p (map said (take MOST_LINES b.urgent.now)) ++ filter p (map standing (take MOST_OPEN b.ways.now))
parted p b =
    let counts = map (counted b.counts.now) tile_places in
    let lines = map said (take MOST_LINES b.urgent.now) in
    let rows = map standing (take MOST_OPEN b.ways.now) in
    ap (filter p) (of_page b).is ∙ filter-append p (counts ++ lines) rows ∙ ap (λ x. x ++ filter p rows) (filter-append p counts lines)

of_its_place : (counts : List ℕ) (place : Place) → filter (is_count_of place) (map (counted counts) tile_places) ≡ Stand place (count_at counts place) ∷ []
of_its_place counts Entered = refl
of_its_place counts Approved = refl
of_its_place counts Queued = refl
of_its_place counts Sent = refl
of_its_place counts Confirmed = refl
of_its_place counts Riding = refl
of_its_place counts Scheduled = refl
of_its_place counts Accepted = refl
of_its_place counts Started = refl
of_its_place counts Completed = refl
of_its_place counts Failed = refl
of_its_place counts Doubtful = refl
of_its_place counts Withdrawn = refl
of_its_place counts Deleted = refl
of_its_place counts Closed = refl

pub one_count : (b : Wall) (place : Place) → filter (is_count_of place) (told_all (page b)) ≡ Stand place (count_at b.counts.now place) ∷ []
one_count b place =
    parted (is_count_of place) b
    ∙ ap₂ (λ x y. x ++ y) (ap₂ (λ x y. x ++ y) (of_its_place b.counts.now place) (no_counts_said place (take MOST_LINES b.urgent.now))) (no_counts place (take MOST_OPEN b.ways.now))

pub all_ways : (b : Wall) → filter is_row (told_all (page b)) ≡ map standing (take MOST_OPEN b.ways.now)
all_ways b = parted is_row b ∙ ap₂ (λ x y. x ++ y) (no_rows_said (take MOST_LINES b.urgent.now)) (all_rows (take MOST_OPEN b.ways.now))

pub each_line : (b : Wall) → filter is_line (told_all (page b)) ≡ map said (take MOST_LINES b.urgent.now)
each_line b =
    parted is_line b ∙ ap₂ (λ x y. x ++ y) (all_lines (take MOST_LINES b.urgent.now)) (no_lines_stand (take MOST_OPEN b.ways.now))
    ∙ append-nil (map said (take MOST_LINES b.urgent.now))
