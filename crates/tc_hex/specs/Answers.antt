-- What a text of octets is answered, and what the lines of an input are (this desk's own).
use Rattle.std.specs.Prelude.{◌≡◌, ◌<◌, ⊤, ℕ, Bool, true, false, not, ◌&&◌, if◌then◌else◌, List, [], ◌∷◌, ◌++◌, length, MatchResult, Option, Some, None, codes}
use Rattle.std.specs.List.{flat_map, list_any}
use Rattle.std.specs.Fmt.{decimal}
use Rattle.std.specs.Io.BufRead.{drop_through, ends_with_byte, strip_last, take_through}
use Rattle.std.specs.Io.KnownBytes.{Appends}
use Rattle.tc_octets.specs.declared.profiles.Profile.{Profile}
use Rattle.tc_decoded.specs.declared.decoding.Layer.{Layer}
use Rattle.tc_decoded.specs.declared.lines.Line.{Line}
use Rattle.tc_decoded.specs.LineTexts.{line_text}
use Rattle.tc_decoded.specs.Decoded.{Decodes, is_fault}
use Rattle.tc_hex.specs.HexTexts.{spelled_octets}
use Rattle.tc_hex.specs.declared.hex_texts.HexFault.{HexFault}
use Rattle.tc_hex.specs.declared.hex_texts.HexFault.TheVariants.{Memory, NoPair, TooLong}

-- ---- one text

-- the line of a text that spells no octets
abbrev pub fault_line : HexFault → List ℕ
fault_line (NoPair at) = codes "not octets: no pair of hexadecimal digits at character " ++ decimal at ++ codes "\n"
fault_line TooLong = codes "not octets: more than 65542 octets, or than 262168 characters\n"
fault_line Memory = []

-- lines as a text, each with an LF
abbrev pub lines_text : List Line → List ℕ
lines_text lines = flat_map (λ line. line_text line ++ 10 ∷ []) lines

-- octets mean the lines of a text, and were read whole if none of these is a fault
abbrev pub Means : Profile → Layer → List ℕ → List ℕ → Bool → Type 0
Means profile layer octets text is_whole =
    (lines : List Line) × Decodes profile layer octets lines × (text ≡ lines_text lines) × (is_whole ≡ not (list_any is_fault lines))

-- a text of octets has this answer: what they mean, or that it spells none
abbrev pub Answers : Profile → Layer → List ℕ → List ℕ → Bool → Type 0
Answers profile layer text answer is_whole = MatchResult (spelled_octets text) (λ octets. Means profile layer octets answer is_whole)
    (λ fault. (answer ≡ fault_line fault) × (is_whole ≡ false))

-- ---- the lines of an input

-- a line without its LF, and without a CR before that
abbrev pub without_end : List ℕ → List ℕ
without_end line = if ends_with_byte 10 line then strip_last 13 (strip_last 10 line) else line

-- an input begins with these lines, each with its LF if it has one, and the rest follows
abbrev pub BeginsWith : List ℕ → List (List ℕ) → List ℕ → Type 0
BeginsWith input [] rest = input ≡ rest
BeginsWith input (line ∷ lines) rest = (0 < length input) × (line ≡ take_through 10 input) × BeginsWith (drop_through 10 input) lines rest

-- what stands before an answer: an empty line, if another one stands before that
abbrev pub separator : Bool → List ℕ
separator after = if after then 10 ∷ [] else []

-- lines have these answers in turn, with an LF between two; `after` says whether an answer stands before the first
abbrev pub AreAnswered : Profile → Layer → Bool → List (List ℕ) → List ℕ → Bool → Type 0
AreAnswered profile layer after [] text are_whole = (text ≡ []) × (are_whole ≡ true)
AreAnswered profile layer after (line ∷ lines) text are_whole =
    (answer later : List ℕ) × (is_whole rest_are : Bool) × Answers profile layer (without_end line) answer is_whole
    × AreAnswered profile layer true lines later rest_are
    × (text ≡ (separator after ++ answer) ++ later) × (are_whole ≡ (is_whole && rest_are))

-- an input and an output, of which the content may not be known, were so, and are so after lines of the one were answered on the other
abbrev pub AnsweredFrom : Profile → Layer → Option (List ℕ) → Option (List ℕ) → Option (List ℕ) → Option (List ℕ) → ℕ → Bool → Type 0
AnsweredFrom profile layer None input before output count are_whole = ⊤
AnsweredFrom profile layer (Some given) input before output count are_whole =
    (lines : List (List ℕ)) × (rest text : List ℕ) × (input ≡ Some rest) × BeginsWith given lines rest × (length lines ≡ count)
    × AreAnswered profile layer false lines text are_whole × Appends before output text
