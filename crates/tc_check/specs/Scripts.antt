-- What `check` says of a script.
use Rattle.std.specs.Prelude.{◌≡◌, ◌⊎◌, ℕ, ◌+◌, ◌==◌, nat_lt, Bool, true, false, not, ◌&&◌, ◌||◌, if◌then◌else◌, Option, Some, None, List, [], ◌∷◌, ◌++◌, codes, length, map, option_to_list}
use Rattle.std.specs.Cmp.Lexicographic.{slice_cmp}
use Rattle.std.specs.Ordering.{nat_cmp}
use Rattle.std.specs.declared.cmp.Ordering.{Ordering}
use Rattle.std.specs.declared.cmp.Ordering.TheVariants.{Less}
use Rattle.bstr.specs.Text.{lines_of, without_terminator}
use Rattle.tc_types.specs.ActGrammar.{HasLongAct}
use Rattle.tc_types.specs.Loads.{LoadLine, SpellsLoad}
use Rattle.tc_types.specs.Verbs.{verb_in}
use Rattle.tc_types.specs.declared.loads.LoadKind.{LoadKind}
use Rattle.tc_types.specs.declared.verbs.Verb.{Verb}
use Rattle.tc_types.specs.declared.verbs.Verb.TheVariants as verb
use Rattle.tc_script.specs.declared.faults.LineFault.{LineFault}
use Rattle.tc_script.specs.Faults.{IsTaken, Tells}
use Rattle.tc_check.specs.Checks.{Says}
use Rattle.tc_check.specs.Findings.{is_none_found, shown_lines}
use Rattle.tc_check.specs.LineTexts.{fault_text, line_place, names_twice, twice_text, word_of, word_place}
use Rattle.tc_check.specs.Shown.{quoted, shown}
use Rattle.tc_check.specs.Sources.{Gives, Seen, seen_at}

-- the lines of a script: LF ends a line, and one CR just before that LF is dropped; the last LF may be missing
abbrev pub script_lines : List ℕ → List (List ℕ)
script_lines text = map without_terminator (lines_of text)

-- an empty line, or one that begins with #
abbrev pub is_skipped : List ℕ → Bool
is_skipped [] = true
is_skipped (first ∷ others) = first == 35

-- ---- a line

-- what is wrong with a line that is not skipped: a run does not take it; or it does, and no desk, since a request is named twice
abbrev pub IsWrongLine : ℕ → List ℕ → List ℕ → Type 0
IsWrongLine number line told =
    ((fault : LineFault) × Tells line fault × (told ≡ fault_text number line fault)) ⊎ (IsTaken line × (names_twice line ≡ true) × (told ≡ twice_text number line))

-- what is told of a line by its number: nothing where it is skipped, or where nothing is wrong with it
abbrev pub SaysOfLine : ℕ → List ℕ → Option (List ℕ) → Type 0
SaysOfLine number line None = (is_skipped line ≡ true) ⊎ (IsTaken line × (names_twice line ≡ false))
SaysOfLine number line (Some told) = (is_skipped line ≡ false) × IsWrongLine number line told

-- ---- a file that a line loads

-- what is told of the file at a path: it is not there, or it is wrong, and where it is first
abbrev pub SaysOfFile : ℕ → LoadKind → List ℕ → Option (List ℕ) → Option (List ℕ) → Type 0
SaysOfFile number of path None told = told ≡ Some (word_place number 5 ++ codes "no file that can be read: " ++ quoted path)
SaysOfFile number of path (Some text) None = (whole first : List ℕ) × Says of text whole first true
SaysOfFile number of path (Some text) (Some told) = (whole first : List ℕ) × Says of text whole first false × (told ≡ word_place number 5 ++ path ++ codes ": " ++ first)

-- ---- a line, and the file that it loads

-- a run takes the line as one that loads a file
abbrev pub IsLoadLine : List ℕ → LoadLine → Type 0
IsLoadLine line load = SpellsLoad line load × (¬ HasLongAct line)

-- What is told of a line, where this was found: of a line with a fault that, and no file is looked at; of another what is told of the file that it loads,
-- if it loads one.
abbrev pub SaysOfWhole : ℕ → List ℕ → List Seen → Option (List ℕ) → Type 0
SaysOfWhole number line files told =
    ((files ≡ []) × (wrong : List ℕ) × SaysOfLine number line (Some wrong) × (told ≡ Some wrong))
    ⊎ ((files ≡ []) × SaysOfLine number line None × ((load : LoadLine) → ¬ IsLoadLine line load) × (told ≡ None))
    ⊎ ((load : LoadLine) × (text : Option (List ℕ)) × SaysOfLine number line None × IsLoadLine line load × (files ≡ seen_at load.path text ∷ [])
    × SaysOfFile number load.kind load.path text told)

-- the same, where what a source has found grows by that
abbrev pub SaysSeen : ℕ → List ℕ → Option (List Seen) → Option (List Seen) → Option (List ℕ) → Type 0
SaysSeen number line gave gives told = (files : List Seen) × SaysOfWhole number line files told × Gives gave gives files

-- ---- a script

-- what is told of the lines from this number on, where this was found
abbrev pub SaysOfLines : ℕ → List (List ℕ) → List Seen → List (List ℕ) → Type 0
SaysOfLines number [] files told = (files ≡ []) × (told ≡ [])
SaysOfLines number (line ∷ lines) files told =
    (first : List Seen) × (others : List Seen) × (now : Option (List ℕ)) × (later : List (List ℕ)) × SaysOfWhole number line first now
    × SaysOfLines (number + 1) lines others later × (files ≡ first ++ others) × (told ≡ option_to_list now ++ later)

-- ---- moments that go back

abbrev pub is_less : Ordering → Bool
is_less Less = true
is_less other = false

-- of two numbers in plain digits the first is the less: it has fewer digits, or as many, and the first that differs is the less
abbrev pub is_before : List ℕ → List ℕ → Bool
is_before first second =
    nat_lt (length first) (length second) || ((length first == length second) && is_less (slice_cmp nat_cmp first second))

-- a question moves nothing
abbrev pub is_question : Option Verb → Bool
is_question (Some verb.Places) = true
is_question (Some verb.History) = true
is_question (Some verb.Request) = true
is_question (Some verb.Link) = true
is_question (Some verb.Schedule) = true
is_question (Some verb.Log) = true
is_question (Some verb.Report) = true
is_question (Some verb.Waiting) = true
is_question (Some verb.Urgent) = true
is_question (Some verb.Moves) = true
is_question (Some verb.Standing) = true
is_question (Some verb.Steps) = true
is_question other = false

-- the moment of a line counts: a run works it, and it is no question
abbrev pub counts : List ℕ → Bool
counts line = not (is_skipped line) && not (is_question (verb_in (word_of line 3)))

-- the latest moment up to a line, by the latest before it; none is before all
abbrev pub latest_with : List ℕ → List ℕ → List ℕ
latest_with latest line = if counts line && is_before latest (word_of line 1) then word_of line 1 else latest

-- a line lies before this moment
abbrev pub goes_back : List ℕ → List ℕ → Bool
goes_back latest line = counts line && is_before (word_of line 1) latest

abbrev pub back_text : ℕ → List ℕ → List ℕ → List ℕ
back_text number latest line = line_place number ++ codes ": at " ++ shown (word_of line 1) ++ codes ", before a line at " ++ shown latest

abbrev pub back_line : ℕ → List ℕ → List ℕ → List (List ℕ)
back_line number latest line = if goes_back latest line then back_text number latest line ∷ [] else []

-- what is told of the lines from this number on, of which each counts that lies before one above it
abbrev pub back_lines_from : ℕ → List ℕ → List (List ℕ) → List (List ℕ)
back_lines_from number latest [] = []
back_lines_from number latest (line ∷ lines) = back_line number latest line ++ back_lines_from (number + 1) (latest_with latest line) lines

abbrev pub ok_text : List (List ℕ) → List ℕ
ok_text lines = codes "ok\n" ++ shown_lines (back_lines_from 1 [] lines)

-- of a script, where this was found: `ok`, and each line that goes back; or each line that is none, or loads what is none
pub record SaysOfScript (text : List ℕ) (gave gives : Option (List Seen)) (told : List ℕ) (is_ok : Bool) : Type 0 where
  pub files : List Seen
  pub lines : List (List ℕ)
  pub are : SaysOfLines 1 (script_lines text) files lines
  pub given : Gives gave gives files
  pub said : told ≡ (if is_none_found lines then ok_text (script_lines text) else shown_lines lines)
  pub ok : is_ok ≡ is_none_found lines
