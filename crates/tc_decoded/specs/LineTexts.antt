-- The texts of lines.
use Rattle.std.specs.Prelude.{ℕ, ◌/◌, ◌%◌, ◌^◌, ◌-◌, ◌==◌, nat_lt, if◌then◌else◌, false, List, [], ◌∷◌, ◌++◌, Option, Some, None, IsSome, codes}
use Rattle.std.specs.Option.{unwrap_or}
use Rattle.std.specs.Fmt.{decimal, digits}
use Rattle.tc_decoded.specs.declared.rows.Shown.{Shown}
use Rattle.tc_decoded.specs.declared.rows.Shown.TheVariants as shown
use Rattle.tc_decoded.specs.declared.rows.Fit.{Fit}
use Rattle.tc_decoded.specs.declared.rows.Fit.TheVariants as fit
use Rattle.tc_decoded.specs.declared.lines.Line.{Line}
use Rattle.tc_decoded.specs.Names.{text_of}

-- ---- values

-- the words of the values that have some
abbrev pub word_at : List (List ℕ) → ℕ → Option (List ℕ)
word_at [] value = None
word_at (word ∷ words) value = if value == 0 then Some word else word_at words (value - 1)

abbrev pub command_word : ℕ → Option (List ℕ)
command_word value = if value == 0 then Some (codes "Unlock") else if value == 0x82 then Some (codes "Set V(R)") else None

abbrev pub word_of : Shown → ℕ → Option (List ℕ)
word_of shown.Flag value = word_at (codes "no" ∷ codes "yes" ∷ []) value
word_of shown.Kind value = word_at (codes "telemetry" ∷ codes "telecommand" ∷ []) value
word_of shown.Sequence value = word_at (codes "continuation" ∷ codes "first" ∷ codes "last" ∷ codes "unsegmented" ∷ []) value
word_of shown.Command value = command_word value
word_of shown.Status value = word_at (codes "disabled" ∷ codes "enabled" ∷ []) value
word_of shown.Outcome value =
    word_at
    (codes "completes" ∷ codes "completes in steps" ∷ codes "refuses" ∷ codes "start fails" ∷ codes "halts" ∷ codes "fails" ∷ [])
    value
word_of other value = None

-- a hexadecimal digit
abbrev pub digit : ℕ → List ℕ
digit value = digits 16 false (value % 16)

abbrev pub unit : ℕ → List ℕ
unit value = if value == 1 then codes " octet" else codes " octets"

-- a number of 32 bits in two's complement
abbrev pub offset_text : ℕ → List ℕ
offset_text value = if nat_lt value (2 ^ 31) then decimal value else codes "-" ++ decimal (2 ^ 32 - value)

-- the digits of any value
abbrev pub number_of : Shown → ℕ → List ℕ
number_of shown.Hexadecimal value = codes "0x" ++ digit (value / 4096) ++ digit (value / 256) ++ digit (value / 16) ++ digit value
number_of shown.Command value = codes "0x" ++ digit (value / 16) ++ digit value
number_of shown.Octets value = decimal value ++ unit value
number_of shown.Offset value = offset_text value
number_of other value = decimal value

abbrev pub shown_text : Shown → ℕ → List ℕ
shown_text shown value = unwrap_or (word_of shown value) (number_of shown value)

-- ---- what a value must be

abbrev pub is_are : ℕ → List ℕ
is_are value = if value == 1 then codes " is given" else codes " are given"

abbrev pub fit_text : Shown → Fit → List ℕ
fit_text shown fit.Any = []
fit_text shown (fit.Is number) = codes ", but must be " ++ shown_text shown number
fit_text shown (fit.Between least most) = codes ", but must be " ++ shown_text shown least ++ codes " to " ++ shown_text shown most
fit_text shown (fit.Least least) = codes ", but must be at least " ++ shown_text shown least
fit_text shown (fit.Most most) = codes ", but must be at most " ++ shown_text shown most
fit_text shown (fit.Given octets field) = codes ", but " ++ decimal octets ++ unit octets ++ is_are octets
fit_text shown fit.Scheduled = codes ", but must be 1, 2, 3, 4, 5, 7, 15 or 17"
fit_text shown (fit.Command command) = codes ", but must be Unlock (00) or Set V(R) (82 00 V)"
fit_text shown fit.Ended = codes ", but no CLTU ends in them"
fit_text shown fit.Refused = codes ", but must be as the link has them"

-- ---- lines

abbrev pub fault_text : Shown → Option Fit → List ℕ
fault_text shown None = []
fault_text shown (Some fault) = fit_text shown fault

abbrev pub line_text : Line → List ℕ
line_text line =
    codes "octet " ++ decimal line.at ++ codes ", " ++ text_of line.name ++ codes ": " ++ shown_text line.shown line.value
    ++ fault_text line.shown line.fault

-- the line says what is wrong
abbrev pub IsFault : Line → Type 0
IsFault line = IsSome line.fault
