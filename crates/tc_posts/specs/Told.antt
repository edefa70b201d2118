-- What a response says: the lines of a reply, and what it is refused with.
use Rattle.std.specs.Prelude.{◌≡◌, ◌+◌, ◌-◌, ℕ, Option, None, Some, codes, List, [], ◌∷◌, drop, length, map, option_and_then, slice_get, unwrap_or}
use Rattle.std.specs.Fmt.{decimal}
use Rattle.std.specs.Str.{IsUtf8}
use Rattle.std.specs.String.{string_bytes}
use Rattle.memchr.specs.Find.{FindsNeedle}
use Rattle.serde_json.specs.Data.{Data, Items}
use Rattle.serde_json.specs.View.{items_of}
use Rattle.serde_json.specs.Find.{as_array, as_number, as_str, as_u64, get}
use Rattle.serde_json.specs.Read.{read}
use Rattle.tc_posts.specs.declared.told.Told.{Told}
use Rattle.tc_posts.specs.declared.told.Untellable.{Untellable}
use Rattle.tc_posts.specs.declared.told.Untellable.TheVariants.{NoResponse, Memory}
use Rattle.tc_report.specs.Texts.{ended}
use Rattle.tc_types.specs.Numbers.{IsNumber}
use Rattle.tc_types.specs.Words.{words}

-- the body of a response: all behind its first empty line (RFC 9112, section 2.1)
abbrev pub IsBody : List ℕ → List ℕ → Type 0
IsBody response body = (at : ℕ) × FindsNeedle response (13 ∷ 10 ∷ 13 ∷ 10 ∷ []) 0 (Some at) × (body ≡ drop (at + 4) response)

-- the text of a JSON string; what is none has no bytes
abbrev pub text_of : Data → List ℕ
text_of value = unwrap_or (as_str value) []

-- the lines that the key `lines` has
abbrev pub lines_in : Data → Option Items
lines_in value = option_and_then as_array (get (codes "lines") value)

-- the number that the key `refusal` has
abbrev pub refusal_in : Data → Option ℕ
refusal_in value = option_and_then as_u64 (option_and_then as_number (get (codes "refusal") value))

-- each of these with an LF behind it
abbrev pub lines_text : List Data → List ℕ
lines_text values = ended (map text_of values)

-- the number that the key `more` has
abbrev pub more_in : Data → Option ℕ
more_in value = option_and_then as_u64 (option_and_then as_number (get (codes "more") value))

-- ---- the move that a line tells

-- a line of a reply that tells the move of this number: `move NUMBER ..`
abbrev pub IsMoveOf : List ℕ → ℕ → Type 0
IsMoveOf line number = IsNumber number × (others : List (List ℕ)) × (words 32 line ≡ codes "move" ∷ decimal number ∷ others)

-- which move a line tells, if it tells one
abbrev pub TellsMove : List ℕ → Option ℕ → Type 0
TellsMove line (Some number) = IsMoveOf line number
TellsMove line None = (number : ℕ) → ¬ IsMoveOf line number

-- the text of the last of these lines
abbrev pub last_text : List Data → List ℕ
last_text lines = unwrap_or (option_and_then as_str (slice_get lines (length lines - 1))) []

-- ---- what a response says

-- What a reply says: its lines, each ended by LF; what it is refused with, or 0; how many of its lines are left out; and which move the last line tells.
pub record Answer : Type 0 where
  pub text : List ℕ
  pub refusal : ℕ
  pub more : ℕ
  pub last : Option ℕ

abbrev pub answer_of : Told → Answer
answer_of told = record { text = string_bytes told.text; refusal = told.refusal; more = told.more; last = told.last }

-- a body says this in JSON
abbrev pub IsTold : Data → Answer → Type 0
IsTold value answer =
    (lines : List Data) × (lines_in value ≡ Some (items_of lines)) × (answer.text ≡ lines_text lines) × (refusal_in value ≡ Some answer.refusal)
    × (more_in value ≡ Some answer.more) × TellsMove (last_text lines) answer.last

-- the same of its bytes
abbrev pub Says : List ℕ → Answer → Type 0
Says body answer = (value : Data) × (read body ≡ Some value) × IsTold value answer

-- the response of a desk: its body is a text, and says this
pub record Tells (response : List ℕ) (answer : Answer) : Type 0 where
  pub body : List ℕ
  pub found : IsBody response body
  pub utf8 : IsUtf8 body
  pub said : Says body answer

-- ---- why nothing is told

-- of a JSON value: it says nothing, or what it says found no memory
abbrev pub IsUnsaid : Data → Untellable → Type 0
IsUnsaid value NoResponse = (answer : Answer) → ¬ (IsTold value answer)
IsUnsaid value Memory = (answer : Answer) × IsTold value answer

-- of a response: it is none of a desk, or it has a body that is a text, which found no memory
abbrev pub IsUntold : List ℕ → Untellable → Type 0
IsUntold response NoResponse = (answer : Answer) → ¬ (Tells response answer)
IsUntold response Memory = (body : List ℕ) × IsBody response body × IsUtf8 body
