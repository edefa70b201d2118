-- How many bytes a page has at most.
use Rattle.std.proofs.Common.{◌≡◌, ℕ, suc, zero, ◌+◌, ◌-◌, ◌*◌, ◌^◌, ◌<◌, ◌≤◌, ◌⊎◌, inl, inr, Bool, true, false, ◌&&◌, nat_lt, nat_le, if◌then◌else◌, Option, Some, None, IfSome, List, [], ◌∷◌, ◌++◌, codes, length, map, take, reverse, sum, ap, arith, lit≤, length-append}
use Rattle.std.proofs.lemmas.List.Sums.{sum_by-cons}
use Rattle.std.proofs.lemmas.List.{length-take, length-drop, length-reverse}
use Rattle.std.proofs.Math.Nat.{mul-suc}
use Rattle.std.proofs.lemmas.Bool.{lt-ltb, le-ltb}
use Rattle.std.proofs.lemmas.Bool.Decides.{leb_tells}
use Rattle.std.specs.List.{flat_map, AllByRecursion, slice_get, slice_index}
use Rattle.tc_types.specs.declared.history.places.Place.{Place}
use Rattle.tc_types.specs.declared.history.places.Place.TheVariants.{Entered, Approved, Queued, Sent, Confirmed, Riding, Scheduled, Accepted, Started, Completed, Failed, Doubtful, Withdrawn, Deleted, Closed}
use Rattle.tc_types.specs.declared.history.moves.Move.{Move}
use Rattle.tc_types.specs.declared.requests.Origin.{Origin}
use Rattle.tc_types.specs.Lawful.{place_number}
use Rattle.tc_types.specs.declared.waits.Wanting.{Wanting}
use Rattle.tc_types.specs.declared.waits.Waiting.{Waiting}
use Rattle.tc_types.specs.declared.waits.Waiting.TheVariants as waiting
use Rattle.tc_types.specs.declared.waits.Lock.{Lock}
use Rattle.tc_urgent.specs.declared.kinds.UrgentKind.{UrgentKind}
use Rattle.tc_urgent.specs.declared.kinds.UrgentKind.TheVariants.{InDoubt, FailedSince, Approval, StepDue, Flying, LostReport, Free, ActivityOf, LockedForever, Locked}
use Rattle.tc_urgent.specs.declared.lines.OnBoard.{OnBoard}
use Rattle.tc_wall.specs.declared.axes.Mark.{Mark}
use Rattle.tc_urgent.specs.Kinds.{insert_in}
use Rattle.tc_wall.specs.declared.walls.UrgentRow.{UrgentRow}
use Rattle.tc_wall.specs.declared.walls.Way.{Way}
use Rattle.tc_wall.specs.declared.walls.Live.{Live}
use Rattle.tc_wall.specs.declared.walls.Opening.{Opening}
use Rattle.tc_wall.specs.declared.walls.ShownSchedule.{ShownSchedule}
use Rattle.tc_wall.specs.declared.walls.Wall.{Wall}
use Rattle.tc_wall.specs.declared.walls.TheConstants.{MOST_LINES, MOST_OPEN, MOST_STAGES, MOST_MOVES, MOST_SHOWN_ACTIVITIES}
use Rattle.tc_wall.specs.declared.links.FopWord.{FopWord}
use Rattle.tc_wall.specs.declared.links.FopWord.TheVariants.{Active, RetransmitWithoutWait, RetransmitWithWait, InitialisingWithoutBc, InitialisingWithBc, Initial}
use Rattle.tc_wall.specs.declared.links.FarmWord.{FarmWord}
use Rattle.tc_wall.specs.declared.links.FarmWord.TheVariants as farm
use Rattle.tc_wall.specs.declared.links.FopLine.{FopLine}
use Rattle.tc_wall.specs.declared.links.FarmLine.{FarmLine}
use Rattle.tc_wall.specs.declared.links.LinkLines.{LinkLines}
use Rattle.tc_wall.specs.declared.fixed.TheConstants.{HEAD, STYLE, POLICY, STRICT, LIVE, SCRIPT, HEADING, CLOSED, TILES, URGENT, SCHEDULE, WAYS, WAYS_HEAD, MOVES, FOOT}
use Rattle.tc_wall.specs.declared.pages.TheConstants.{MOST_BYTES, MOST_FEW}
use Rattle.tc_wall.specs.Parts.{Part, Fixed, shown, shown_all, fixed}
use Rattle.tc_wall.specs.Bounds.{last_of, left_out_parts, none_parts}
use Rattle.tc_wall.specs.Heading.{file_parts, last_parts, heading_parts}
use Rattle.tc_wall.specs.Tiles.{count_at, sum_at, tile_head_parts, count_parts, next_parts, counts_parts, tile_parts, open_tiles_parts, failed_word, final_tiles_parts, tiles_parts}
use Rattle.tc_wall.specs.Waits.{approval_parts, forever_parts, lock_parts, locked_parts, other_parts, says_parts, step_parts, text_of, wanting_parts}
use Rattle.tc_wall.specs.Urgents.{age_parts, begin_parts, critical_parts, group_of, group_parts, left_first_parts, left_last_parts, left_parts, marked_parts, on_board_parts, same_parts, urgent_parts, urgents_parts, waited_parts}
use Rattle.tc_wall.specs.LinkParts.{fop_words, farm_words, flag_words, queue_parts, counter_parts, fop_parts, farm_parts, link_parts}
use Rattle.tc_wall.specs.ScheduleParts.{activity_parts, known_schedule_parts}
use Rattle.tc_wall.specs.Axis.{axis_of, lines_of, drawn}
use Rattle.tc_wall.specs.Bars.{stage_parts, begin_of, end_of, bar_parts}
use Rattle.tc_wall.specs.WayParts as ways
use Rattle.tc_wall.specs.MoveParts.{move_parts, moves_parts}
use Rattle.tc_wall.specs.Page.{laid_in, size_word, live_script_parts, script_parts, head_parts, live_parts, page, wall_page}
use Rattle.tc_wall.specs.Ranges.{IsShort, IsMoveInRange, IsWantingInRange, IsWaitingInRange, IsOnBoardInRange, IsLineInRange, IsUrgentInRange, IsOriginInRange, IsWayInRange, AreQueuesInRange, AreCountersInRange, IsFopInRange, IsFarmInRange, IsLinkInRange, IsActivityInRange, IsScheduleInRange, IsLiveInRange, IsOpeningInRange, IsLastInRange, IsWallInRange}
use Rattle.tc_wall.proofs.ListLemmas.{flat_map-append}
use Rattle.tc_wall.proofs.SizeLemmas.{size, of_nothing, of_text, of_words, of_u16, of_u32, of_u64, of_place, of_name, chosen_size, entered_size, moved_size, opened_size, tile_begins_size, tile_label_size, count_size, approvals_size, author_size, due_size, insert_size, known_size, left_some_size, line_size, subject_size, two_size, worded_size, number_size, share_size, flies_size, section_size, premise_size, enabled_size, activity_size, row_begins_size, identity_size, command_size, way_author_size, bar_begins_size, place_size, label_size, tick_size, ticks_begin_size, who_size, what_size}
use Rattle.tc_wall.proofs.AxisLemmas.{IsOnAxis, axis_small, x_small, lines_small, lines_few, all_reversed}

-- parts behind parts
both : (a b : List Part) (m n : ℕ) → size a ≤ m → size b ≤ n → size (a ++ b) ≤ m + n
unfolding size
both a b m n first next = omega (arith, ap length (flat_map-append shown a b), length-append (shown_all a) (shown_all b), first, next)

more : (a : List Part) (m n : ℕ) → m ≤ n → size a ≤ m → size a ≤ n
more a m n le h = omega arith

chosen : (b : Bool) (xs ys : List Part) (n : ℕ) → size xs ≤ n → size ys ≤ n → size (if b then xs else ys) ≤ n
chosen true xs ys n first second = first
chosen false xs ys n first second = second

fixed_size : (text : List ℕ) (n : ℕ) → length text ≤ n → size (fixed text) ≤ n
unfolding fixed
fixed_size text n few = more (Fixed text ∷ []) (n + 0) n (omega arith) (of_words text n [] 0 few of_nothing)

-- rows
each_size : {X : Type 0} (P : X → Type 0) (f : X → List Part) (xs : List X) (n : ℕ) → AllByRecursion P xs → ((x : X) → P x → size (f x) ≤ n) → size (flat_map f xs) ≤ n * length xs
each_size P f [] n all one = more [] 0 (n * 0) (omega arith) of_nothing
each_size P f (x ∷ xs) n all one =
    more (f x ++ flat_map f xs) (n + n * length xs) (n * suc (length xs)) (omega (arith, mul-suc n (length xs))) (both (f x) (flat_map f xs) n (n * length xs) (one x all.0) (each_size P f xs n all.1 one))

rows_within : {X : Type 0} (P : X → Type 0) (f : X → List Part) (xs : List X) (n most whole : ℕ) → AllByRecursion P xs → ((x : X) → P x → size (f x) ≤ n) → n * length xs ≤ whole → size (flat_map f xs) ≤ whole
rows_within P f xs n most whole all one few = more (flat_map f xs) (n * length xs) whole few (each_size P f xs n all one)

-- ---- bounds, and the heading

left_out_size : (count most : ℕ) → count < 2 ^ 64 → size (left_out_parts count most) ≤ 50
unfolding left_out_parts
left_out_size count most small = chosen (nat_lt most count) _ _ 50 (of_text _ _ 30 (of_u64 _ _ 10 (omega arith) (of_text _ _ 0 of_nothing))) (more [] 0 50 (omega arith) of_nothing)

none_size : (count : ℕ) (said : List ℕ) → length said ≤ 19 → size (none_parts count said) ≤ 40
unfolding none_parts
none_size count said few = chosen (nat_lt 0 count) _ _ 40 (more [] 0 40 (omega arith) of_nothing) (of_text _ _ 24 (of_words said 19 _ 5 few (of_text _ _ 0 of_nothing)))

file_size : (opening : Option Opening) → IfSome opening IsOpeningInRange → size (file_parts opening) ≤ 200
unfolding file_parts
file_size (Some opening) h = more _ 88 200 (omega arith) (opened_size opening h.stood)
file_size None h = fixed_size CLOSED.now 200 (lit≤ tt)

last_size : (last : Option Move) → IfSome last IsLastInRange → size (last_parts last) ≤ 101
last_size (Some row) h = moved_size row h.seq h.moment
last_size None h = fixed_size _ 101 (lit≤ tt)

heading_size : (b : Wall) → b.entered < 2 ^ 32 → IfSome b.opening IsOpeningInRange → IfSome (slice_get b.moves.now (length b.moves.now - 1)) IsLastInRange → size (heading_parts b) ≤ 544
unfolding heading_parts
heading_size b entered opening last =
    both _ _ 534 10 (both _ _ 433 101 (both _ _ 400 33 (both _ _ 200 200 (fixed_size HEADING.now 200 (lit≤ tt)) (file_size b.opening opening)) (entered_size b.entered entered)) (last_size _ last)) (fixed_size _ 10 (lit≤ tt))

-- ---- the tiles

place_small : (counts : List ℕ) (k : ℕ) → AllByRecursion (λ n. n < 2 ^ 32) counts → slice_index counts k < 2 ^ 32
place_small [] k all = omega arith
place_small (n ∷ counts) zero all = all.0
place_small (n ∷ counts) (suc k) all = place_small counts k all.1

sum_small : (counts : List ℕ) (places : List Place) → AllByRecursion (λ n. n < 2 ^ 32) counts → sum (map (count_at counts) places) ≤ length places * 2 ^ 32
sum_small counts [] all = lit≤ tt
sum_small counts (place ∷ others) all =
    omega (arith, sum_by-cons (λ n. n) (count_at counts place) (map (count_at counts) others), place_small counts (place_number place - 1) all, sum_small counts others all)

sum_at_small : (counts : List ℕ) (places : List Place) → AllByRecursion (λ n. n < 2 ^ 32) counts → length places ≤ 15 → sum_at counts places < 2 ^ 64
unfolding sum_at
sum_at_small counts places all few = omega (arith, sum_small counts places all)

others_size : (counts : List ℕ) (places : List Place) → AllByRecursion (λ n. n < 2 ^ 32) counts → size (flat_map (next_parts counts) places) ≤ 22 * length places
unfolding next_parts
others_size counts [] all = of_nothing
others_size counts (place ∷ others) all =
    more _ (22 + 22 * length others) (22 * suc (length others)) (omega arith)
    (both (fixed (codes ", ") ++ count_parts counts place) _ 22 (22 * length others) (both (fixed (codes ", ")) (count_parts counts place) 2 20 (fixed_size _ 2 (lit≤ tt)) (count_size counts place (place_small counts _ all))) (others_size counts others all))

counts_size : (counts : List ℕ) (places : List Place) → AllByRecursion (λ n. n < 2 ^ 32) counts → size (counts_parts counts places) ≤ 22 * length places
unfolding counts_parts
counts_size counts [] all = of_nothing
counts_size counts (place ∷ others) all =
    more _ (20 + 22 * length others) (22 * suc (length others)) (omega arith) (both (count_parts counts place) _ 20 (22 * length others) (count_size counts place (place_small counts _ all)) (others_size counts others all))

tile_head_size : (kind label : List ℕ) (first : Place) (count : ℕ) → length kind ≤ 9 → length label ≤ 26 → count < 2 ^ 64 → size (tile_head_parts kind label first count) ≤ 115
unfolding tile_head_parts
tile_head_size kind label first count a b small = both _ _ 48 67 (tile_begins_size kind first count a) (tile_label_size count label small b)

tile_size : (counts kind label : List ℕ) (first : Place) (places : List Place) → AllByRecursion (λ n. n < 2 ^ 32) counts → length kind ≤ 9 → length label ≤ 26 → length places ≤ 15
    → size (tile_parts counts kind label first places) ≤ 130 + 22 * length places
unfolding tile_parts
tile_size counts kind label first places all a b few =
    more _ (115 + 22 * length places + 15) (130 + 22 * length places) (omega arith)
    (both _ _ (115 + 22 * length places) 15 (both _ _ 115 (22 * length places) (tile_head_size kind label first (sum_at counts places) a b (sum_at_small counts places all few)) (counts_size counts places all)) (fixed_size _ 15 (lit≤ tt)))

open_tiles_size : (counts : List ℕ) → AllByRecursion (λ n. n < 2 ^ 32) counts → size (open_tiles_parts counts) ≤ 870
unfolding open_tiles_parts
open_tiles_size counts all =
    both _ _ 718 152 (both _ _ 566 152 (both _ _ 304 262 (both _ _ 152 152 (tile_size counts _ _ Entered (Entered ∷ []) all (lit≤ tt) (lit≤ tt) (lit≤ tt)) (tile_size counts _ _ Approved (Approved ∷ []) all (lit≤ tt) (lit≤ tt) (lit≤ tt)))
    (tile_size counts _ _ Queued (Queued ∷ Sent ∷ Confirmed ∷ Riding ∷ Accepted ∷ Started ∷ []) all (lit≤ tt) (lit≤ tt) (lit≤ tt))) (tile_size counts _ _ Scheduled (Scheduled ∷ []) all (lit≤ tt) (lit≤ tt) (lit≤ tt)))
    (tile_size counts _ _ Doubtful (Doubtful ∷ []) all (lit≤ tt) (lit≤ tt) (lit≤ tt))

failed_size : (failed : ℕ) → length (failed_word failed) ≤ 9
unfolding failed_word
failed_size failed = chosen_size (nat_lt 0 failed) _ _ 9 (lit≤ tt) (lit≤ tt)

final_tiles_size : (counts : List ℕ) (failed : ℕ) → AllByRecursion (λ n. n < 2 ^ 32) counts → size (final_tiles_parts counts failed) ≤ 500
unfolding final_tiles_parts
final_tiles_size counts failed all =
    both _ _ 304 196 (both _ _ 152 152 (tile_size counts _ _ Failed (Failed ∷ []) all (failed_size failed) (lit≤ tt) (lit≤ tt)) (tile_size counts _ _ Completed (Completed ∷ []) all (lit≤ tt) (lit≤ tt) (lit≤ tt)))
    (tile_size counts _ _ Withdrawn (Withdrawn ∷ Deleted ∷ Closed ∷ []) all (lit≤ tt) (lit≤ tt) (lit≤ tt))

tiles_size : (counts : List ℕ) (failed : ℕ) → AllByRecursion (λ n. n < 2 ^ 32) counts → size (tiles_parts counts failed) ≤ 1581
unfolding tiles_parts
tiles_size counts failed all = both _ _ 1570 11 (both _ _ 1070 500 (both _ _ 200 870 (fixed_size TILES.now 200 (lit≤ tt)) (open_tiles_size counts all)) (final_tiles_size counts failed all)) (fixed_size _ 11 (lit≤ tt))

-- ---- what is open

other_size : (by : Option (List ℕ)) → IfSome by IsShort → size (other_parts by) ≤ 98
unfolding other_parts
other_size None h = more [] 0 98 (omega arith) of_nothing
other_size (Some person) short = of_text _ _ 96 (of_name _ _ 0 short of_nothing)

wanting_size : (w : Wanting) → IsWantingInRange w → size (wanting_parts w) ≤ 517
unfolding wanting_parts
wanting_size w h = more _ 226 517 (omega arith) (both _ _ 128 98 (both _ _ 19 109 (approvals_size w) (author_size w.author h.author)) (other_size w.by h.given))

approval_size : (waits : Option Waiting) → IfSome waits IsWaitingInRange → size (approval_parts waits) ≤ 517
approval_size None h = fixed_size _ 517 (lit≤ tt)
approval_size (Some (waiting.Request n approval)) h = wanting_size approval h.1
approval_size (Some (waiting.Stack stack approval rows first)) h = wanting_size approval h.1
approval_size (Some (waiting.Free n)) h = fixed_size _ 517 (lit≤ tt)
approval_size (Some (waiting.Locked n lock)) h = fixed_size _ 517 (lit≤ tt)
approval_size (Some (waiting.Doubtful n)) h = fixed_size _ 517 (lit≤ tt)
approval_size (Some (waiting.Step execution procedure step is_countersigned)) h = fixed_size _ 517 (lit≤ tt)

step_size : (waits : Option Waiting) (text : List ℕ) → IfSome waits IsWaitingInRange → length text ≤ 80 → size (step_parts waits text) ≤ 517
step_size None text h few = fixed_size _ 517 (lit≤ tt)
step_size (Some (waiting.Request n approval)) text h few = fixed_size _ 517 (lit≤ tt)
step_size (Some (waiting.Stack stack approval rows first)) text h few = fixed_size _ 517 (lit≤ tt)
step_size (Some (waiting.Free n)) text h few = fixed_size _ 517 (lit≤ tt)
step_size (Some (waiting.Locked n lock)) text h few = fixed_size _ 517 (lit≤ tt)
step_size (Some (waiting.Doubtful n)) text h few = fixed_size _ 517 (lit≤ tt)
step_size (Some (waiting.Step execution procedure step is_countersigned)) text h few = due_size step is_countersigned text h.2 few

lock_size : (waits : Option Waiting) → IfSome waits IsWaitingInRange → size (lock_parts waits) ≤ 119
lock_size None h = more [] 0 119 (omega arith) of_nothing
lock_size (Some (waiting.Request n approval)) h = more [] 0 119 (omega arith) of_nothing
lock_size (Some (waiting.Stack stack approval rows first)) h = more [] 0 119 (omega arith) of_nothing
lock_size (Some (waiting.Free n)) h = more [] 0 119 (omega arith) of_nothing
lock_size (Some (waiting.Locked n lock)) h = line_size lock h.1 h.2
lock_size (Some (waiting.Doubtful n)) h = more [] 0 119 (omega arith) of_nothing
lock_size (Some (waiting.Step execution procedure step is_countersigned)) h = more [] 0 119 (omega arith) of_nothing

forever_size : (waits : Option Waiting) → IfSome waits IsWaitingInRange → size (forever_parts waits) ≤ 517
unfolding forever_parts
forever_size waits h = more _ 219 517 (omega arith) (both _ _ 169 50 (both _ _ 50 119 (fixed_size _ 50 (lit≤ tt)) (lock_size waits h)) (fixed_size _ 50 (lit≤ tt)))

locked_size : (waits : Option Waiting) → IfSome waits IsWaitingInRange → size (locked_parts waits) ≤ 517
unfolding locked_parts
locked_size waits h = more _ 219 517 (omega arith) (both _ _ 169 50 (both _ _ 50 119 (fixed_size _ 50 (lit≤ tt)) (lock_size waits h)) (fixed_size _ 50 (lit≤ tt)))

says_size : (kind : UrgentKind) (waits : Option Waiting) (text : List ℕ) → insert_in kind < 2 ^ 32 → IfSome waits IsWaitingInRange → length text ≤ 80 → size (says_parts kind waits text) ≤ 517
says_size InDoubt waits text small h few = fixed_size _ 517 (lit≤ tt)
says_size FailedSince waits text small h few = fixed_size _ 517 (lit≤ tt)
says_size Approval waits text small h few = approval_size waits h
says_size StepDue waits text small h few = step_size waits text h few
says_size Flying waits text small h few = fixed_size _ 517 (lit≤ tt)
says_size LostReport waits text small h few = fixed_size _ 517 (lit≤ tt)
says_size Free waits text small h few = fixed_size _ 517 (lit≤ tt)
says_size (ActivityOf insert) waits text small h few = more _ 53 517 (omega arith) (insert_size insert small)
says_size LockedForever waits text small h few = forever_size waits h
says_size Locked waits text small h few = locked_size waits h

same_size : (same : ℕ) → same < 2 ^ 32 → size (same_parts same) ≤ 27
unfolding same_parts
same_size same small = chosen (nat_lt 0 same) _ _ 27 (of_text _ _ 19 (of_u32 _ _ 9 small (of_text _ _ 0 of_nothing))) (more [] 0 27 (omega arith) of_nothing)

group_size : (name : Option (List ℕ)) → IfSome name IsShort → size (group_parts name) ≤ 100
unfolding group_parts
group_size None h = more [] 0 100 (omega arith) of_nothing
group_size (Some name) short = of_text _ _ 96 (of_name _ _ 0 short of_nothing)

group_short : (waits : Option Waiting) (stack : Option (List ℕ)) → IfSome waits IsWaitingInRange → IfSome stack IsShort → IfSome (group_of waits stack) IsShort
group_short None stack h short = short
group_short (Some (waiting.Request n approval)) stack h short = short
group_short (Some (waiting.Stack name approval rows first)) stack h short = short
group_short (Some (waiting.Free n)) stack h short = short
group_short (Some (waiting.Locked n lock)) stack h short = short
group_short (Some (waiting.Doubtful n)) stack h short = short
group_short (Some (waiting.Step execution procedure step is_countersigned)) stack h short = h.1

critical_size : (critical : Bool) → size (critical_parts critical) ≤ 25
unfolding critical_parts
critical_size critical = chosen critical _ _ 25 (of_text _ _ 0 of_nothing) (more [] 0 25 (omega arith) of_nothing)

marked_size : (critical : Bool) → size (marked_parts critical) ≤ 26
unfolding marked_parts
marked_size critical = chosen critical _ _ 26 (both _ _ 1 25 (fixed_size _ 1 (lit≤ tt)) (critical_size critical)) (more [] 0 26 (omega arith) of_nothing)

on_board_size : (b : Option OnBoard) → IfSome b IsOnBoardInRange → size (on_board_parts b) ≤ 45
on_board_size None h = unfold on_board_parts in fixed_size _ 45 (lit≤ tt)
on_board_size (Some b) h = known_size b h

begin_size : (row : UrgentRow) → IsUrgentInRange row → size (begin_parts row) ≤ 273
unfolding begin_parts
begin_size row h = both _ _ 228 45 (both _ _ 202 26 (both _ _ 102 100 (both _ _ 75 27 (subject_size row.line.kind row.line.number h.line.number) (same_size row.line.same h.line.same))
    (group_size _ (group_short row.waiting row.line.stack h.waits h.line.stack))) (marked_size row.critical)) (on_board_size row.line.on_board h.line.on_board)

waited_size : (seconds : ℕ) → seconds < 2 ^ 32 → size (waited_parts seconds) ≤ 27
unfolding waited_parts
waited_size seconds small = chosen (nat_lt seconds 60) _ _ 27 (of_u32 _ _ 17 small (more _ 2 17 (omega arith) (of_text _ _ 0 of_nothing)))
    (chosen (nat_lt seconds 3600) _ _ 27 (of_u32 _ _ 17 (omega arith) (more _ 4 17 (omega arith) (of_text _ _ 0 of_nothing)))
    (chosen (nat_lt seconds 86400) _ _ 27 (two_size _ _ _ _ (omega arith) (omega arith) (lit≤ tt) (lit≤ tt)) (two_size _ _ _ _ (omega arith) (omega arith) (lit≤ tt) (lit≤ tt))))

age_size : (b : Option OnBoard) (seconds : ℕ) → seconds < 2 ^ 32 → size (age_parts b seconds) ≤ 27
age_size None seconds small = more [] 0 27 (omega arith) of_nothing
age_size (Some b) seconds small = waited_size seconds small

urgent_size : (row : UrgentRow) → IsUrgentInRange row → size (urgent_parts row) ≤ 837
unfolding urgent_parts
urgent_size row h = both _ _ 826 11 (both _ _ 799 27 (both _ _ 790 9 (both _ _ 273 517 (begin_size row h) (says_size row.line.kind row.waiting (text_of row.text) h.line.insert h.waits h.text))
    (fixed_size _ 9 (lit≤ tt))) (age_size row.line.on_board row.line.waited h.line.waited)) (fixed_size _ 11 (lit≤ tt))

left_size : (count : ℕ) (words : List ℕ) → count < 2 ^ 64 → length words ≤ 17 → size (left_parts count words) ≤ 75
unfolding left_parts
left_size count words small few = chosen (nat_lt 0 count) _ _ 75 (left_some_size count words small few) (more [] 0 75 (omega arith) of_nothing)

count_small : (counts : List ℕ) (k : ℕ) → AllByRecursion (λ n. n < 2 ^ 64) counts → slice_index counts k < 2 ^ 64
count_small [] k all = omega arith
count_small (n ∷ counts) zero all = all.0
count_small (n ∷ counts) (suc k) all = count_small counts k all.1

left_first_size : (left : List ℕ) → AllByRecursion (λ n. n < 2 ^ 64) left → size (left_first_parts left) ≤ 375
unfolding left_first_parts
left_first_size left all = both _ _ 300 75 (both _ _ 225 75 (both _ _ 150 75 (both _ _ 75 75 (left_size _ _ (count_small left 0 all) (lit≤ tt)) (left_size _ _ (count_small left 1 all) (lit≤ tt)))
    (left_size _ _ (count_small left 2 all) (lit≤ tt))) (left_size _ _ (count_small left 3 all) (lit≤ tt))) (left_size _ _ (count_small left 4 all) (lit≤ tt))

left_last_size : (left : List ℕ) → AllByRecursion (λ n. n < 2 ^ 64) left → size (left_last_parts left) ≤ 375
unfolding left_last_parts
left_last_size left all = both _ _ 300 75 (both _ _ 225 75 (both _ _ 150 75 (both _ _ 75 75 (left_size _ _ (count_small left 5 all) (lit≤ tt)) (left_size _ _ (count_small left 6 all) (lit≤ tt)))
    (left_size _ _ (count_small left 7 all) (lit≤ tt))) (left_size _ _ (count_small left 8 all) (lit≤ tt))) (left_size _ _ (count_small left 9 all) (lit≤ tt))

urgents_size : (b : Wall) → AllByRecursion IsUrgentInRange (take MOST_LINES b.urgent.now) → AllByRecursion (λ n. n < 2 ^ 64) b.left.now → size (urgents_parts b) ≤ 126769
unfolding urgents_parts
urgents_size b all left =
    both _ _ 126758 11 (both _ _ 126383 375 (both _ _ 126008 375 (both _ _ 125968 40 (both _ _ 125950 18 (both _ _ 400 125550 (fixed_size URGENT.now 400 (lit≤ tt))
    (rows_within IsUrgentInRange urgent_parts (take MOST_LINES b.urgent.now) 837 150 125550 all urgent_size (omega (arith, length-take MOST_LINES b.urgent.now))))
    (fixed_size _ 18 (lit≤ tt))) (none_size b.lines _ (lit≤ tt))) (left_first_size b.left.now left)) (left_last_size b.left.now left)) (fixed_size _ 11 (lit≤ tt))

-- ---- the link, and the schedule

fop_words_size : (state : FopWord) → length (fop_words state) ≤ 60
unfolding fop_words
fop_words_size Active = lit≤ tt
fop_words_size RetransmitWithoutWait = lit≤ tt
fop_words_size RetransmitWithWait = lit≤ tt
fop_words_size InitialisingWithoutBc = lit≤ tt
fop_words_size InitialisingWithBc = lit≤ tt
fop_words_size Initial = lit≤ tt

farm_words_size : (state : FarmWord) → length (farm_words state) ≤ 60
unfolding farm_words
farm_words_size farm.Open = lit≤ tt
farm_words_size farm.Wait = lit≤ tt
farm_words_size farm.Lockout = lit≤ tt

flag_words_size : (lockout wait retransmit : Bool) → length (flag_words lockout wait retransmit) ≤ 60
unfolding flag_words
flag_words_size true true true = lit≤ tt
flag_words_size true true false = lit≤ tt
flag_words_size true false true = lit≤ tt
flag_words_size true false false = lit≤ tt
flag_words_size false true true = lit≤ tt
flag_words_size false true false = lit≤ tt
flag_words_size false false true = lit≤ tt
flag_words_size false false false = lit≤ tt

queue_size : (f : FopLine) → AreQueuesInRange f → size (queue_parts f) ≤ 273
unfolding queue_parts
queue_size f h = both _ _ 213 60 (both _ _ 162 51 (both _ _ 102 60 (worded_size _ _ (lit≤ tt) (fop_words_size f.state)) (share_size _ _ _ (lit≤ tt) h.sent h.k)) (number_size _ _ (lit≤ tt) h.waits)) (share_size _ _ _ (lit≤ tt) h.count h.limit)

counter_size : (f : FopLine) → AreCountersInRange f → size (counter_parts f) ≤ 162
unfolding counter_parts
counter_size f h = both _ _ 111 51 (both _ _ 60 51 (share_size _ _ _ (lit≤ tt) h.timer h.t1) (number_size _ _ (lit≤ tt) h.vs)) (number_size _ _ (lit≤ tt) h.nn)

fop_size : (f : FopLine) → IsFopInRange f → size (fop_parts f) ≤ 435
unfolding fop_parts
fop_size f h = both _ _ 273 162 (queue_size f h.queues) (counter_size f h.counters)

farm_size : (f : FarmLine) → IsFarmInRange f → size (farm_parts f) ≤ 357
unfolding farm_parts
farm_size f h =
    both _ _ 306 51 (both _ _ 204 102 (both _ _ 153 51 (both _ _ 102 51 (worded_size _ _ (lit≤ tt) (farm_words_size f.state)) (number_size _ _ (lit≤ tt) h.vr)) (number_size _ _ (lit≤ tt) h.farm_b))
    (worded_size _ _ (lit≤ tt) (flag_words_size f.lockout f.wait f.retransmit))) (number_size _ _ (lit≤ tt) h.window)

link_size : (l : LinkLines) → IsLinkInRange l → size (link_parts l) ≤ 984
unfolding link_parts
link_size l h =
    both _ _ 967 17 (both _ _ 882 85 (both _ _ 525 357 (both _ _ 90 435 (both _ _ 45 45 (more _ 44 45 (omega arith) (section_size l.clean)) (more _ 43 45 (omega arith) (premise_size l.clean))) (fop_size l.fop h.fop)) (farm_size l.farm h.farm))
    (flies_size l.up l.down h.up h.down)) (fixed_size _ 17 (lit≤ tt))

schedule_size : (s : ShownSchedule) → IsScheduleInRange s → size (known_schedule_parts s) ≤ 3414
unfolding known_schedule_parts
schedule_size s h =
    both _ _ 3403 11 (both _ _ 3353 50 (both _ _ 3347 6 (both _ _ 275 3072 (both _ _ 200 75 (fixed_size SCHEDULE.now 200 (lit≤ tt)) (enabled_size s.enabled s.laid_in h.laid_in))
    (rows_within IsActivityInRange activity_parts (take MOST_SHOWN_ACTIVITIES s.activities.now) 48 64 3072 h.activities activity_size (omega (arith, length-take MOST_SHOWN_ACTIVITIES s.activities.now))))
    (fixed_size _ 6 (lit≤ tt))) (left_out_size s.laid_in MOST_SHOWN_ACTIVITIES h.laid_in)) (fixed_size _ 11 (lit≤ tt))

live_size : (live : Option Live) → IfSome live IsLiveInRange → size (live_parts live) ≤ 4398
unfolding live_parts
live_size None h = more _ 600 4398 (omega arith) (both _ _ 200 400 (fixed_size _ 200 (lit≤ tt)) (both _ _ 200 200 (fixed_size SCHEDULE.now 200 (lit≤ tt)) (fixed_size _ 200 (lit≤ tt))))
live_size (Some live) h = both _ _ 984 3414 (link_size live.link h.link) (schedule_size live.schedule h.schedule)

-- ---- the ways

stage_size : (place : Place) (begin end : ℕ) → end ≤ 640 → size (stage_parts place begin end) ≤ 61
unfolding stage_parts
stage_size place begin end low = by (leb_tells end begin)
  where
    by : ((nat_le end begin ≡ true) × (end ≤ begin)) ⊎ ((nat_le end begin ≡ false) × (begin < end)) → size (stage_parts place begin end) ≤ 61
    by (inl none) = rw (le-ltb begin end none.1) (more [] 0 61 (omega arith) of_nothing)
    by (inr some) = rw (lt-ltb begin end some.1)
        (of_text _ _ 48 (of_place _ _ 39 (of_text _ _ 34 (of_u16 _ _ 29 (omega arith) (of_text _ _ 20 (of_u16 _ _ 15 (omega arith) (of_text _ _ 0 of_nothing)))))))

bar_size : (axis : List Mark) (before : ℕ) (moves : List Move) → AllByRecursion IsOnAxis axis → before ≤ 640 → size (bar_parts axis before moves) ≤ 61 * length moves
unfolding bar_parts
bar_size axis before [] all low = of_nothing
bar_size axis before (row ∷ others) all low =
    more _ (61 + 61 * length others) (61 * suc (length others)) (omega arith) (both _ _ 61 (61 * length others)
    (stage_size row.to (begin_of axis before row) _ (end_low others (begin_of axis before row) (begin_low before row low)))
    (bar_size axis (begin_of axis before row) others all (begin_low before row low)))
  where
    begin_low : (from : ℕ) (at : Move) → from ≤ 640 → begin_of axis from at ≤ 640
    begin_low from at h = omega (arith, x_small axis at.moment all)

    end_low : (rest : List Move) (begin : ℕ) → begin ≤ 640 → end_of axis begin rest ≤ 640
    end_low [] begin h = omega arith
    end_low (following ∷ rest) begin h = begin_low begin following h

earlier_size : (moved : ℕ) → moved < 2 ^ 64 → size (ways.earlier_parts moved) ≤ 34
unfolding ways.earlier_parts
earlier_size moved small = chosen (nat_lt MOST_STAGES moved) _ _ 34 (of_text _ _ 33 (of_u64 _ _ 13 (omega arith) (of_text _ _ 0 of_nothing))) (more [] 0 34 (omega arith) of_nothing)

origin_size : (origin : Option Origin) → IfSome origin IsOriginInRange → size (ways.origin_parts origin) ≤ 107
unfolding ways.origin_parts
origin_size None h = more [] 0 107 (omega arith) of_nothing
origin_size (Some origin) h = of_name _ _ 11 h.stack (of_text _ _ 10 (of_u32 _ _ 0 h.line of_nothing))

way_request_size : (way : Way) → IsWayInRange way → size (ways.request_parts way) ≤ 407
unfolding ways.request_parts
way_request_size way h =
    both _ _ 300 107 (both _ _ 164 136 (both _ _ 130 34 (both _ _ 105 25 (both _ _ 85 20 (both _ _ 65 20 (row_begins_size _ way.place h.request.number) (identity_size _ h.request.apid h.request.count))
    (command_size _ h.request.service h.request.subtype)) (critical_size way.request.critical)) (earlier_size way.moved h.moved)) (way_author_size _ h.request.author)) (origin_size _ h.request.origin)

way_size : (axis : List Mark) (way : Way) → AllByRecursion IsOnAxis axis → IsWayInRange way → size (ways.way_parts axis way) ≤ 1298
unfolding ways.way_parts
way_size axis way all h =
    both _ _ 1240 58 (both _ _ 508 732 (both _ _ 407 101 (way_request_size way h) bar_begins_size)
    (more _ (61 * length (drawn way)) 732 (omega (arith, length-drop (length way.moves.now - MOST_STAGES) way.moves.now)) (bar_size axis 0 (drawn way) all (omega arith)))) (place_size way.place)

axis_size : (lines : List Mark) → AllByRecursion IsOnAxis lines → length lines ≤ 5 → size (ways.axis_parts lines) ≤ 1015
unfolding ways.axis_parts
axis_size lines all few =
    both _ _ 915 100 (both _ _ 860 55 (both _ _ 760 100 (both _ _ 400 360 (fixed_size WAYS_HEAD.now 400 (lit≤ tt)) (rows_within IsOnAxis ways.label_parts lines 72 5 360 all (λ line h. label_size line (omega arith)) (omega arith)))
    ticks_begin_size) (rows_within IsOnAxis ways.tick_parts lines 11 5 55 all (λ line h. tick_size line (omega arith)) (omega arith))) (fixed_size _ 100 (lit≤ tt))

table_size : (shown : List Way) → AllByRecursion IsWayInRange shown → length shown ≤ 200 → size (ways.table_parts shown) ≤ 260633
unfolding ways.table_parts
table_size [] all few = more [] 0 260633 (omega arith) of_nothing
table_size (way ∷ others) all few =
    let axis = axis_of (way ∷ others) in
    both _ _ 260615 18 (both _ _ 1015 259600 (axis_size (lines_of axis) (lines_small axis (axis_small (way ∷ others))) (lines_few axis (axis_small (way ∷ others))))
    (rows_within IsWayInRange (ways.way_parts axis) (way ∷ others) 1298 200 259600 all (λ it h. way_size axis it (axis_small (way ∷ others)) h) (omega arith))) (fixed_size _ 18 (lit≤ tt))

ways_size : (b : Wall) → AllByRecursion IsWayInRange (take MOST_OPEN b.ways.now) → b.opened < 2 ^ 64 → size (ways.ways_parts b) ≤ 263734
unfolding ways.ways_parts
ways_size b all small =
    both _ _ 263723 11 (both _ _ 263673 50 (both _ _ 263633 40 (both _ _ 3000 260633 (fixed_size WAYS.now 3000 (lit≤ tt)) (table_size (take MOST_OPEN b.ways.now) all (omega (arith, length-take MOST_OPEN b.ways.now))))
    (none_size b.opened _ (lit≤ tt))) (left_out_size b.opened MOST_OPEN small)) (fixed_size _ 11 (lit≤ tt))

-- ---- the moves, and the page

move_size : (row : Move) → IsMoveInRange row → size (move_parts row) ≤ 252
move_size row h = both _ _ 174 78 (who_size row h) (what_size row h)

moves_size : (b : Wall) → AllByRecursion IsMoveInRange (last_of MOST_MOVES b.moves.now) → b.moved < 2 ^ 64 → size (moves_parts b) ≤ 13119
unfolding moves_parts
moves_size b all small =
    let rows = last_of MOST_MOVES b.moves.now in
    both _ _ 13108 11 (both _ _ 13058 50 (both _ _ 13018 40 (both _ _ 13000 18 (both _ _ 400 12600 (fixed_size MOVES.now 400 (lit≤ tt))
    (rows_within IsMoveInRange move_parts (reverse rows) 252 50 12600 (all_reversed IsMoveInRange rows all) move_size (omega (arith, length-reverse rows, length-drop (length b.moves.now - MOST_MOVES) b.moves.now))))
    (fixed_size _ 18 (lit≤ tt))) (none_size b.moved _ (lit≤ tt))) (left_out_size b.moved MOST_MOVES small)) (fixed_size _ 11 (lit≤ tt))

script_size : (live : Option Live) → size (script_parts live) ≤ 4600
unfolding live_script_parts
script_size None = fixed_size STRICT.now 4600 (lit≤ tt)
script_size (Some live) =
    both _ _ 4500 100 (both _ _ 500 4000 (both _ _ 400 100 (both _ _ 100 300 (fixed_size _ 100 (lit≤ tt)) (fixed_size POLICY.now 300 (lit≤ tt))) (fixed_size LIVE.now 100 (lit≤ tt)))
    (fixed_size SCRIPT.now 4000 (lit≤ tt))) (fixed_size _ 100 (lit≤ tt))

word_size : (b : Wall) → length (size_word b) ≤ 4
unfolding size_word
word_size b = chosen_size (nat_le b.opened MOST_FEW && nat_le (b.lines + laid_in b.live) MOST_FEW) (codes "few") (codes "many") 4 (lit≤ tt) (lit≤ tt)

head_size : (b : Wall) → size (head_parts b) ≤ 25700
unfolding head_parts
head_size b =
    both _ _ 25697 3 (both _ _ 25693 4 (both _ _ 25659 34 (both _ _ 21059 4600 (both _ _ 21000 59 (both _ _ 1000 20000 (fixed_size HEAD.now 1000 (lit≤ tt)) (fixed_size STYLE.now 20000 (lit≤ tt))) (fixed_size _ 59 (lit≤ tt)))
    (script_size b.live)) (fixed_size _ 34 (lit≤ tt))) (fixed_size _ 4 (word_size b))) (fixed_size _ 3 (lit≤ tt))

whole_size : (b : Wall) → IsWallInRange b → size (page b) ≤ 436145
unfolding page
whole_size b h =
    both _ _ 435845 300 (both _ _ 422726 13119 (both _ _ 158992 263734 (both _ _ 154594 4398 (both _ _ 27825 126769 (both _ _ 26244 1581 (both _ _ 25700 544 (head_size b) (heading_size b h.entered h.opening h.last)) (tiles_size b.counts.now b.failed h.counts))
    (urgents_size b h.urgent h.left)) (live_size b.live h.live)) (ways_size b h.ways h.ways_count)) (moves_size b h.moves h.moves_count)) (fixed_size FOOT.now 300 (lit≤ tt))

pub page_size : (b : Wall) → IsWallInRange b → length (wall_page b) ≤ MOST_BYTES
unfolding wall_page size
page_size b h = more (page b) 436145 MOST_BYTES (lit≤ tt) (whole_size b h)
