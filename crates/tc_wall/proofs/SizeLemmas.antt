-- How many bytes the parts of a page have at most.
use Rattle.std.proofs.Common.{◌≡◌, ℕ, ◌+◌, ◌*◌, ◌^◌, ◌<◌, ◌≤◌, Bool, true, false, is_some, ◌==◌, if◌then◌else◌, Option, Some, None, List, [], ◌∷◌, ◌++◌, codes, length, refl, arith, lit≤, length-append}
use Rattle.std.proofs.lemmas.Fmt.{length-decimal-le}
use Rattle.std.specs.Fmt.{decimal}
use Rattle.tc_types.specs.declared.history.places.Place.{Place}
use Rattle.tc_types.specs.declared.history.places.Place.TheVariants.{Entered, Approved, Queued, Sent, Confirmed, Riding, Scheduled, Accepted, Started, Completed, Failed, Doubtful, Withdrawn, Deleted, Closed}
use Rattle.tc_types.specs.declared.history.causes.Cause.{Cause}
use Rattle.tc_types.specs.declared.history.causes.Cause.TheVariants as cause
use Rattle.tc_types.specs.declared.history.moves.Move.{Move}
use Rattle.tc_types.specs.declared.requests.Command.{Command}
use Rattle.tc_types.specs.declared.requests.Identity.{Identity}
use Rattle.tc_types.specs.declared.link.activities.ListedActivity.{ListedActivity}
use Rattle.tc_types.specs.Lines.{place_name, from_word, cause_name}
use Rattle.tc_types.specs.declared.waits.Lock.{Lock}
use Rattle.tc_urgent.specs.declared.kinds.UrgentKind.{UrgentKind}
use Rattle.tc_urgent.specs.declared.kinds.UrgentKind.TheVariants.{InDoubt, FailedSince, Approval, StepDue, Flying, LostReport, Free, ActivityOf, LockedForever, Locked}
use Rattle.tc_urgent.specs.declared.lines.OnBoard.{OnBoard}
use Rattle.tc_types.specs.declared.waits.Wanting.{Wanting}
use Rattle.tc_types.specs.WaitingLines.{given, wanted}
use Rattle.tc_wall.specs.declared.axes.Mark.{Mark}
use Rattle.tc_wall.specs.declared.axes.TheConstants.{WIDTH}
use Rattle.tc_wall.specs.Clock.{clock_text}
use Rattle.tc_wall.specs.Escapes.{entity, escaped}
use Rattle.tc_wall.specs.Parts.{Part, Fixed, Number, Time, PlaceWord, FromWord, CauseWord, Count, Row, Line, Person, shown, shown_all}
use Rattle.tc_wall.specs.Signs.{sign_of}
use Rattle.tc_wall.specs.declared.walls.Opening.{Opening}
use Rattle.tc_wall.specs.Heading.{entered_parts, moved_parts, opened_parts}
use Rattle.tc_wall.specs.Tiles.{count_at, zero_word, tile_begins, tile_label, count_parts}
use Rattle.tc_wall.specs.Kinds.{kind_begins, kind_class, kind_letter}
use Rattle.tc_wall.specs.Waits.{activity_parts as insert_parts, approvals_parts, author_parts, line_parts, next_parts as due_parts, whom_word}
use Rattle.tc_wall.specs.Urgents.{left_parts, on_board_parts, subject_parts, two_parts}
use Rattle.tc_wall.specs.LinkParts.{premise_word, worded_parts, number_parts, share_parts, flies_parts, section_begins, premise_parts}
use Rattle.tc_wall.specs.ScheduleParts.{enabled_word, enabled_parts, activity_parts}
use Rattle.tc_wall.specs.WayParts.{service_of, subtype_of}
use Rattle.tc_wall.specs.WayParts as ways
use Rattle.tc_wall.specs.MoveParts.{who_parts, what_parts}
use Rattle.tc_wall.specs.Ranges.{IsShort, IsMoveInRange, IsActivityInRange, IsOnBoardInRange}
use Rattle.tc_wall.proofs.EscapeLemmas.{entity_size}

unfoldable pub size : List Part → ℕ
size parts = length (shown_all parts)

-- ---- words and numbers

place_name_size : (place : Place) → length (place_name place) ≤ 9
place_name_size Entered = lit≤ tt
place_name_size Approved = lit≤ tt
place_name_size Queued = lit≤ tt
place_name_size Sent = lit≤ tt
place_name_size Confirmed = lit≤ tt
place_name_size Riding = lit≤ tt
place_name_size Scheduled = lit≤ tt
place_name_size Accepted = lit≤ tt
place_name_size Started = lit≤ tt
place_name_size Completed = lit≤ tt
place_name_size Failed = lit≤ tt
place_name_size Doubtful = lit≤ tt
place_name_size Withdrawn = lit≤ tt
place_name_size Deleted = lit≤ tt
place_name_size Closed = lit≤ tt

from_word_size : (from : Option Place) → length (from_word from) ≤ 9
from_word_size None = lit≤ tt
from_word_size (Some place) = place_name_size place

cause_name_size : (why : Cause) → length (cause_name why) ≤ 8
cause_name_size cause.Enter = lit≤ tt
cause_name_size cause.Approve = lit≤ tt
cause_name_size cause.Withdraw = lit≤ tt
cause_name_size cause.Release = lit≤ tt
cause_name_size cause.Transmit = lit≤ tt
cause_name_size cause.Confirm = lit≤ tt
cause_name_size cause.GiveBack = lit≤ tt
cause_name_size cause.Doubt = lit≤ tt
cause_name_size cause.Report = lit≤ tt
cause_name_size cause.Insert = lit≤ tt
cause_name_size cause.Delete = lit≤ tt
cause_name_size cause.Reset = lit≤ tt
cause_name_size cause.Close = lit≤ tt
cause_name_size cause.Open = lit≤ tt

pub sign_size : (place : Place) → length (sign_of place) ≤ 8
unfolding sign_of
sign_size Entered = lit≤ tt
sign_size Approved = lit≤ tt
sign_size Queued = lit≤ tt
sign_size Sent = lit≤ tt
sign_size Confirmed = lit≤ tt
sign_size Riding = lit≤ tt
sign_size Scheduled = lit≤ tt
sign_size Accepted = lit≤ tt
sign_size Started = lit≤ tt
sign_size Completed = lit≤ tt
sign_size Failed = lit≤ tt
sign_size Doubtful = lit≤ tt
sign_size Withdrawn = lit≤ tt
sign_size Deleted = lit≤ tt
sign_size Closed = lit≤ tt

-- one of two words
pub chosen_size : (b : Bool) (xs ys : List ℕ) (n : ℕ) → length xs ≤ n → length ys ≤ n → length (if b then xs else ys) ≤ n
chosen_size true xs ys n first second = first
chosen_size false xs ys n first second = second

zero_size : (count : ℕ) → length (zero_word count) ≤ 5
unfolding zero_word
zero_size count = chosen_size (count == 0) (codes " zero") [] 5 (lit≤ tt) (lit≤ tt)

whom_size : (is_countersigned : Bool) → length (whom_word is_countersigned) ≤ 11
unfolding whom_word
whom_size is_countersigned = chosen_size is_countersigned _ _ 11 (lit≤ tt) (lit≤ tt)

premise_word_size : (clean : Bool) → length (premise_word clean) ≤ 6
unfolding premise_word
premise_word_size clean = chosen_size clean _ _ 6 (lit≤ tt) (lit≤ tt)

enabled_word_size : (enabled : Bool) → length (enabled_word enabled) ≤ 8
unfolding enabled_word
enabled_word_size enabled = chosen_size enabled _ _ 8 (lit≤ tt) (lit≤ tt)

kind_class_size : (kind : UrgentKind) → length (kind_class kind) ≤ 13
unfolding kind_class
kind_class_size InDoubt = lit≤ tt
kind_class_size FailedSince = lit≤ tt
kind_class_size Approval = lit≤ tt
kind_class_size StepDue = lit≤ tt
kind_class_size Flying = lit≤ tt
kind_class_size LostReport = lit≤ tt
kind_class_size Free = lit≤ tt
kind_class_size (ActivityOf insert) = lit≤ tt
kind_class_size LockedForever = lit≤ tt
kind_class_size Locked = lit≤ tt

kind_letter_size : (kind : UrgentKind) → length (kind_letter kind) ≤ 1
unfolding kind_letter
kind_letter_size InDoubt = lit≤ tt
kind_letter_size FailedSince = lit≤ tt
kind_letter_size Approval = lit≤ tt
kind_letter_size StepDue = lit≤ tt
kind_letter_size Flying = lit≤ tt
kind_letter_size LostReport = lit≤ tt
kind_letter_size Free = lit≤ tt
kind_letter_size (ActivityOf insert) = lit≤ tt
kind_letter_size LockedForever = lit≤ tt
kind_letter_size Locked = lit≤ tt

kind_begins_size : (kind : UrgentKind) → length (kind_begins kind) ≤ 22
unfolding kind_begins
kind_begins_size InDoubt = lit≤ tt
kind_begins_size FailedSince = lit≤ tt
kind_begins_size Approval = lit≤ tt
kind_begins_size StepDue = lit≤ tt
kind_begins_size Flying = lit≤ tt
kind_begins_size LostReport = lit≤ tt
kind_begins_size Free = lit≤ tt
kind_begins_size (ActivityOf insert) = lit≤ tt
kind_begins_size LockedForever = lit≤ tt
kind_begins_size Locked = lit≤ tt

small_choice : (b : Bool) (m n : ℕ) → m < 2 ^ 8 → n < 2 ^ 8 → (if b then m else n) < 2 ^ 8
small_choice true m n first second = first
small_choice false m n first second = second

given_small : (w : Wanting) → given w < 2 ^ 8
given_small w = small_choice (is_some w.by) 1 0 (omega arith) (omega arith)

wanted_small : (w : Wanting) → wanted w < 2 ^ 8
wanted_small w = small_choice w.critical 2 1 (omega arith) (omega arith)

width_small : WIDTH < 2 ^ 32
width_small = omega arith

clock_size : (moment : ℕ) → length (clock_text moment) ≡ 19
unfolding clock_text
clock_size moment = refl

escaped_size : (text : List ℕ) → length (escaped text) ≤ 6 * length text
escaped_size [] = lit≤ tt
escaped_size (byte ∷ others) = omega (arith, length-append (entity byte) (escaped others), entity_size byte, escaped_size others)

-- ---- one part before others

pub of_nothing : size [] ≤ 0
unfolding size
of_nothing = lit≤ tt

pub of_part : (part : Part) (parts : List Part) (m n : ℕ) → length (shown part) ≤ m → size parts ≤ n → size (part ∷ parts) ≤ m + n
unfolding size
of_part part parts m n one others = omega (arith, length-append (shown part) (shown_all parts), one, others)

pub of_words : (text : List ℕ) (m : ℕ) (parts : List Part) (n : ℕ) → length text ≤ m → size parts ≤ n → size (Fixed text ∷ parts) ≤ m + n
of_words text m parts n = of_part (Fixed text) parts m n

pub of_text : (text : List ℕ) (parts : List Part) (n : ℕ) → size parts ≤ n → size (Fixed text ∷ parts) ≤ length text + n
of_text text parts n = of_part (Fixed text) parts (length text) n (omega arith)

pub of_u8 : (number : ℕ) (parts : List Part) (n : ℕ) → number < 2 ^ 8 → size parts ≤ n → size (Number number ∷ parts) ≤ 3 + n
of_u8 number parts n small = of_part (Number number) parts 3 n (length-decimal-le 3 number (omega arith) (omega arith) (omega arith))

pub of_u16 : (number : ℕ) (parts : List Part) (n : ℕ) → number < 2 ^ 16 → size parts ≤ n → size (Number number ∷ parts) ≤ 5 + n
of_u16 number parts n small = of_part (Number number) parts 5 n (length-decimal-le 5 number (omega arith) (omega arith) (omega arith))

pub of_u32 : (number : ℕ) (parts : List Part) (n : ℕ) → number < 2 ^ 32 → size parts ≤ n → size (Number number ∷ parts) ≤ 10 + n
of_u32 number parts n small = of_part (Number number) parts 10 n (length-decimal-le 10 number (omega arith) (omega arith) (omega arith))

pub of_u64 : (number : ℕ) (parts : List Part) (n : ℕ) → number < 2 ^ 64 → size parts ≤ n → size (Number number ∷ parts) ≤ 20 + n
of_u64 number parts n small = of_part (Number number) parts 20 n (length-decimal-le 20 number (omega arith) (omega arith) small)

pub of_time : (moment : ℕ) (parts : List Part) (n : ℕ) → size parts ≤ n → size (Time moment ∷ parts) ≤ 19 + n
of_time moment parts n = of_part (Time moment) parts 19 n (omega (arith, clock_size moment))

pub of_place : (place : Place) (parts : List Part) (n : ℕ) → size parts ≤ n → size (PlaceWord place ∷ parts) ≤ 9 + n
of_place place parts n = of_part (PlaceWord place) parts 9 n (place_name_size place)

pub of_from : (from : Option Place) (parts : List Part) (n : ℕ) → size parts ≤ n → size (FromWord from ∷ parts) ≤ 9 + n
of_from from parts n = of_part (FromWord from) parts 9 n (from_word_size from)

pub of_cause : (why : Cause) (parts : List Part) (n : ℕ) → size parts ≤ n → size (CauseWord why ∷ parts) ≤ 8 + n
of_cause why parts n = of_part (CauseWord why) parts 8 n (cause_name_size why)

pub of_name : (name : List ℕ) (parts : List Part) (n : ℕ) → IsShort name → size parts ≤ n → size (Person name ∷ parts) ≤ 96 + n
of_name name parts n short = of_part (Person name) parts 96 n (omega (arith, escaped_size name))

pub of_step : (text : List ℕ) (parts : List Part) (n : ℕ) → length text ≤ 80 → size parts ≤ n → size (Person text ∷ parts) ≤ 480 + n
of_step text parts n few = of_part (Person text) parts 480 n (omega (arith, escaped_size text))

pub of_count : (place : Place) (number : ℕ) (parts : List Part) (n : ℕ) → number < 2 ^ 32 → size parts ≤ n → size (Count place number ∷ parts) ≤ 20 + n
of_count place number parts n small =
    of_part (Count place number) parts 20 n (omega (arith, length-append (place_name place) (32 ∷ decimal number), place_name_size place, length-decimal-le 10 number (omega arith) (omega arith) (omega arith)))

pub of_row : (number : ℕ) (place : Place) (parts : List Part) (n : ℕ) → number < 2 ^ 32 → size parts ≤ n → size (Row number place ∷ parts) ≤ 39 + n
of_row number place parts n small = of_part (Row number place) parts 39 n (row_size (decimal number) (length-decimal-le 10 number (omega arith) (omega arith) (omega arith)))
  where
    row_size : (digits : List ℕ) → length digits ≤ 10 → length (codes "<tr id=\"r" ++ digits ++ codes "\" class=\"" ++ place_name place ++ codes "\">") ≤ 39
    row_size digits few = simp length-append (omega (arith, place_name_size place))

pub of_line : (kind : UrgentKind) (number : ℕ) (parts : List Part) (n : ℕ) → number < 2 ^ 32 → size parts ≤ n → size (Line kind number ∷ parts) ≤ 43 + n
of_line kind number parts n small = of_part (Line kind number) parts 43 n (line_size (decimal number) (length-decimal-le 10 number (omega arith) (omega arith) (omega arith)))
  where
    line_size : (digits : List ℕ) → length digits ≤ 10 → length (codes "<tr id=\"" ++ kind_letter kind ++ digits ++ codes "\" class=\"" ++ kind_class kind ++ codes "\">") ≤ 43
    line_size digits few = simp length-append (omega (arith, kind_letter_size kind, kind_class_size kind, few))

-- ---- groups of parts

pub entered_size : (n : ℕ) → n < 2 ^ 32 → size (entered_parts n) ≤ 33
unfolding entered_parts
entered_size n small = of_text _ _ 27 (of_u32 _ _ 17 small (of_text _ _ 0 of_nothing))

pub opened_size : (opening : Opening) → opening.stood < 2 ^ 64 → size (opened_parts opening) ≤ 88
unfolding opened_parts
opened_size opening small = of_text _ _ 72 (of_time _ _ 53 (of_text _ _ 35 (of_u64 _ _ 15 small (of_text _ _ 0 of_nothing))))

pub tile_begins_size : (kind : List ℕ) (first : Place) (count : ℕ) → length kind ≤ 9 → size (tile_begins kind first count) ≤ 48
unfolding tile_begins
tile_begins_size kind first count a = of_text _ _ 31 (of_words _ 9 _ 22 a (of_words _ 5 _ 17 (zero_size count) (of_text _ _ 12 (of_words _ 8 _ 4 (sign_size first) (of_text _ _ 0 of_nothing)))))

pub tile_label_size : (count : ℕ) (label : List ℕ) → count < 2 ^ 64 → length label ≤ 26 → size (tile_label count label) ≤ 67
unfolding tile_label
tile_label_size count label small a = of_text _ _ 64 (of_u64 _ _ 44 small (of_text _ _ 37 (of_words _ 26 _ 11 a (of_text _ _ 0 of_nothing))))

pub count_size : (counts : List ℕ) (place : Place) → count_at counts place < 2 ^ 32 → size (count_parts counts place) ≤ 20
unfolding count_parts
count_size counts place small = of_count _ _ _ 0 small of_nothing

pub approvals_size : (w : Wanting) → size (approvals_parts w) ≤ 19
unfolding approvals_parts
approvals_size w = of_text _ _ 10 (of_u8 _ _ 7 (given_small w) (of_text _ _ 3 (of_u8 _ _ 0 (wanted_small w) of_nothing)))

pub author_size : (author : List ℕ) → IsShort author → size (author_parts author) ≤ 109
unfolding author_parts
author_size author short = of_text _ _ 96 (of_name _ _ 0 short of_nothing)

pub due_size : (step : ℕ) (is_countersigned : Bool) (text : List ℕ) → step < 2 ^ 32 → length text ≤ 80 → size (due_parts step is_countersigned text) ≤ 517
unfolding due_parts
due_size step is_countersigned text small few =
    of_text _ _ 512 (of_u32 _ _ 502 small (of_text _ _ 500 (of_step _ _ 20 few (of_text _ _ 11 (of_words _ 11 _ 0 (whom_size is_countersigned) of_nothing)))))

pub line_size : (lock : Lock) → lock.line < 2 ^ 32 → IsShort lock.stack → size (line_parts lock) ≤ 119
unfolding line_parts
line_size lock small short = of_text _ _ 110 (of_u32 _ _ 100 small (of_text _ _ 96 (of_name _ _ 0 short of_nothing)))

pub insert_size : (insert : ℕ) → insert < 2 ^ 32 → size (insert_parts insert) ≤ 53
unfolding insert_parts
insert_size insert small = of_text _ _ 41 (of_u32 _ _ 31 small (of_text _ _ 0 of_nothing))

pub subject_size : (kind : UrgentKind) (n : ℕ) → n < 2 ^ 32 → size (subject_parts kind n) ≤ 75
unfolding subject_parts
subject_size kind n small = of_line _ _ _ 32 small (of_words _ 22 _ 10 (kind_begins_size kind) (of_u32 _ _ 0 small of_nothing))

pub known_size : (b : OnBoard) → IsOnBoardInRange b → size (on_board_parts (Some b)) ≤ 45
unfolding on_board_parts
known_size b h = of_text _ _ 36 (of_u16 _ _ 31 h.apid (of_text _ _ 30 (of_u16 _ _ 25 h.count (of_text _ _ 16 (of_u8 _ _ 13 h.service (of_text _ _ 12 (of_u8 _ _ 9 h.subtype (of_text _ _ 0 of_nothing))))))))

pub two_size : (n : ℕ) (unit : List ℕ) (less : ℕ) (small : List ℕ) → n < 2 ^ 32 → less < 2 ^ 32 → length unit ≤ 3 → length small ≤ 4 → size (two_parts n unit less small) ≤ 27
unfolding two_parts
two_size n unit less small a b d e = of_u32 _ _ 17 a (of_words _ 3 _ 14 d (of_u32 _ _ 4 b (of_words _ 4 _ 0 e of_nothing)))

pub left_some_size : (count : ℕ) (words : List ℕ) → count < 2 ^ 64 → length words ≤ 17
    → size (Fixed (codes "<p class=\"more\">lines left out: ") ∷ Number count ∷ Fixed (codes " ") ∷ Fixed words ∷ Fixed (codes "</p>\n") ∷ []) ≤ 75
left_some_size count words small few = of_text _ _ 43 (of_u64 _ _ 23 small (of_text _ _ 22 (of_words _ 17 _ 5 few (of_text _ _ 0 of_nothing))))

pub worded_size : (name words : List ℕ) → length name ≤ 16 → length words ≤ 60 → size (worded_parts name words) ≤ 102
unfolding worded_parts
worded_size name words a b = of_text _ _ 93 (of_words _ 16 _ 77 a (of_text _ _ 72 (of_words _ 60 _ 12 b (of_text _ _ 0 of_nothing))))

pub number_size : (name : List ℕ) (n : ℕ) → length name ≤ 16 → n < 2 ^ 16 → size (number_parts name n) ≤ 51
unfolding number_parts
number_size name n a small = of_text _ _ 42 (of_words _ 16 _ 26 a (of_text _ _ 17 (of_u16 _ _ 12 small (of_text _ _ 0 of_nothing))))

pub share_size : (name : List ℕ) (n most : ℕ) → length name ≤ 16 → n < 2 ^ 16 → most < 2 ^ 16 → size (share_parts name n most) ≤ 60
unfolding share_parts
share_size name n most a b d = of_text _ _ 51 (of_words _ 16 _ 35 a (of_text _ _ 26 (of_u16 _ _ 21 b (of_text _ _ 17 (of_u16 _ _ 12 d (of_text _ _ 0 of_nothing))))))

pub flies_size : (up down : ℕ) → up < 2 ^ 64 → down < 2 ^ 64 → size (flies_parts up down) ≤ 85
unfolding flies_parts
flies_size up down a b = of_text _ _ 62 (of_u64 _ _ 42 a (of_text _ _ 37 (of_u64 _ _ 17 b (of_text _ _ 0 of_nothing))))

pub section_size : (clean : Bool) → size (section_begins clean) ≤ 44
unfolding section_begins
section_size clean = of_text _ _ 23 (of_words _ 6 _ 17 (premise_word_size clean) (of_text _ _ 0 of_nothing))

pub premise_size : (clean : Bool) → size (premise_parts clean) ≤ 43
unfolding premise_parts
premise_size clean = of_text _ _ 16 (of_words _ 6 _ 10 (premise_word_size clean) (of_text _ _ 0 of_nothing))

pub enabled_size : (enabled : Bool) (count : ℕ) → count < 2 ^ 64 → size (enabled_parts enabled count) ≤ 75
unfolding enabled_parts
enabled_size enabled count small = of_text _ _ 56 (of_words _ 8 _ 48 (enabled_word_size enabled) (of_text _ _ 30 (of_u64 _ _ 10 small (of_text _ _ 0 of_nothing))))

pub activity_size : (it : ListedActivity) → IsActivityInRange it → size (activity_parts it) ≤ 48
unfolding activity_parts
activity_size it h = of_text _ _ 41 (of_u16 _ _ 36 h.apid (of_text _ _ 35 (of_u16 _ _ 30 h.count (of_text _ _ 25 (of_time _ _ 6 (of_text _ _ 0 of_nothing))))))

pub row_begins_size : (n : ℕ) (place : Place) → n < 2 ^ 32 → size (ways.row_begins n place) ≤ 65
unfolding ways.row_begins
row_begins_size n place small = of_row _ _ _ 26 small (of_text _ _ 19 (of_u32 _ _ 9 small (of_text _ _ 0 of_nothing)))

pub identity_size : (identity : Identity) → identity.apid < 2 ^ 16 → identity.count < 2 ^ 16 → size (ways.identity_parts identity) ≤ 20
unfolding ways.identity_parts
identity_size identity a b = of_text _ _ 16 (of_u16 _ _ 11 a (of_text _ _ 10 (of_u16 _ _ 5 b (of_text _ _ 0 of_nothing))))

pub command_size : (command : Command) → service_of command < 2 ^ 8 → subtype_of command < 2 ^ 8 → size (ways.command_parts command) ≤ 20
unfolding ways.command_parts
command_size command a b = of_text _ _ 16 (of_u8 _ _ 13 a (of_text _ _ 12 (of_u8 _ _ 9 b (of_text _ _ 0 of_nothing))))

pub way_author_size : (author : List ℕ) → IsShort author → size (ways.author_parts author) ≤ 136
unfolding ways.author_parts
way_author_size author short = of_text _ _ 116 (of_name _ _ 20 short (of_text _ _ 0 of_nothing))

pub bar_begins_size : size (ways.bar_begins) ≤ 101
unfolding ways.bar_begins
bar_begins_size = of_text _ _ 62 (of_u32 _ _ 52 width_small (of_text _ _ 0 of_nothing))

pub place_size : (place : Place) → size (ways.place_parts place) ≤ 58
unfolding ways.place_parts
place_size place = of_text _ _ 29 (of_words _ 8 _ 21 (sign_size place) (of_text _ _ 20 (of_place _ _ 11 (of_text _ _ 0 of_nothing))))

pub label_size : (line : Mark) → line.x < 2 ^ 16 → size (ways.label_parts line) ≤ 72
unfolding ways.label_parts
label_size line small = of_text _ _ 45 (of_u16 _ _ 40 small (of_text _ _ 37 (of_u32 _ _ 27 width_small (of_text _ _ 24 (of_time _ _ 5 (of_text _ _ 0 of_nothing))))))

pub tick_size : (line : Mark) → line.x < 2 ^ 16 → size (ways.tick_parts line) ≤ 11
unfolding ways.tick_parts
tick_size line small = of_text _ _ 10 (of_u16 _ _ 5 small (of_text _ _ 0 of_nothing))

pub ticks_begin_size : size (ways.ticks_begin) ≤ 100
unfolding ways.ticks_begin
ticks_begin_size = of_text _ _ 76 (of_u32 _ _ 66 width_small (of_text _ _ 0 of_nothing))

pub who_size : (row : Move) → IsMoveInRange row → size (who_parts row) ≤ 174
unfolding who_parts
who_size row h = of_text _ _ 163 (of_place _ _ 154 (of_text _ _ 148 (of_u32 _ _ 138 h.seq (of_text _ _ 129 (of_time _ _ 110 (of_text _ _ 101 (of_name _ _ 5 h.person (of_text _ _ 0 of_nothing))))))))

pub what_size : (row : Move) → IsMoveInRange row → size (what_parts row) ≤ 78
unfolding what_parts
what_size row h = of_text _ _ 74 (of_u32 _ _ 64 h.request (of_text _ _ 55 (of_from _ _ 46 (of_text _ _ 37 (of_place _ _ 28 (of_text _ _ 19 (of_cause _ _ 11 (of_text _ _ 0 of_nothing))))))))

pub moved_size : (row : Move) → row.seq < 2 ^ 32 → row.moment < 2 ^ 32 → size (moved_parts row) ≤ 101
unfolding moved_parts
moved_size row small late = of_text _ _ 78 (of_u32 _ _ 68 late (of_text _ _ 53 (of_u32 _ _ 43 small (of_text _ _ 32 (of_time _ _ 13 (of_text _ _ 0 of_nothing))))))
