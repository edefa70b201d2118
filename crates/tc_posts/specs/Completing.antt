-- How a reply of which lines are left out is completed: they are asked for as moves, where the last line that is there tells one.
use Rattle.std.specs.Prelude.{◌≡◌, ◌<◌, ◌-◌, ◌==◌, ℕ, if◌then◌else◌, None, Some, codes, List, [], ◌∷◌, ◌++◌, length, take}
use Rattle.std.specs.Fmt.{decimal}
use Rattle.std.specs.Str.{IsUtf8}
use Rattle.serde_json.specs.Data.{Data}
use Rattle.serde_json.specs.View.{items_of}
use Rattle.serde_json.specs.Read.{read}
use Rattle.tc_posts.specs.Posting.{moves_bytes}
use Rattle.tc_posts.specs.Steps.{Step, sent}
use Rattle.tc_posts.specs.Told.{Answer, IsBody, TellsMove, last_text, lines_in, lines_text}

-- the lines of a reply to the question for moves that tell moves: all but its first, which counts them
abbrev pub move_lines : List Data → List Data
move_lines [] = []
move_lines (first ∷ others) = others

-- the same, of which no more are taken than are wanted
abbrev pub wanted_lines : ℕ → List Data → List Data
wanted_lines most lines = take most (move_lines lines)

-- an answer goes on by these lines
abbrev pub GoesOnBy : List Data → Answer → Answer → Type 0
GoesOnBy lines answer next = (next.text ≡ answer.text ++ lines_text lines) × (next.refusal ≡ answer.refusal)
    × (next.more ≡ answer.more - length lines) × TellsMove (last_text lines) next.last

-- The body of a response is a text that is JSON, and an answer goes on by the moves that it tells.
pub record GoesOn (response : List ℕ) (answer next : Answer) : Type 0 where
  pub body : List ℕ
  pub found : IsBody response body
  pub utf8 : IsUtf8 body
  pub value : Data
  pub is : read body ≡ Some value
  pub lines : List Data
  pub told : lines_in value ≡ Some (items_of lines)
  pub by : GoesOnBy (wanted_lines answer.more lines) answer next

-- A reply comes to another by these steps. While lines of it are left out and its last line tells a move, the moves after that one are asked for,
-- and it goes on by them.
pub data Completes (port : ℕ) : Answer → List Step → Answer → Type 0 where
  IsWhole : (answer : Answer) → answer.more ≡ 0 → Completes port answer [] answer
  IsCut : (answer : Answer) → answer.last ≡ None → Completes port answer [] answer
  Asks : (answer next last : Answer) (after : ℕ) (response : List ℕ) (steps : List Step) → 0 < answer.more → answer.last ≡ Some after
      → GoesOn response answer next → Completes port next steps last → Completes port answer (sent (moves_bytes port after) response ∷ steps) last

-- ---- what is said of lines that are left out

-- how many lines are left out
abbrev pub left_out_words : ℕ → List ℕ
left_out_words more = if more == 1 then codes "1 more line is left out" else decimal more ++ codes " more lines are left out"

-- the same of the line of a script, by the script's name and its place there
abbrev pub left_out_note : List ℕ → ℕ → ℕ → List ℕ
left_out_note script place more = script ++ codes ":" ++ decimal place ++ codes ": " ++ left_out_words more
