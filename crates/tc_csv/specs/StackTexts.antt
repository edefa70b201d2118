-- The text of a stack: a row in each record, under a header (this desk's own). Instants are those of RFC 3339 and RFC 9557, as the
-- crate jiff reads them.
use Rattle.std.specs.Prelude.{◌≡◌, ◌⊎◌, ⊤, ℕ, ℤ, ◌*◌, ◌<◌, pos, Bool, true, false, Option, Some, None, Ok, IfSome, List, [], ◌∷◌, length, map, get_or, drop}
use Rattle.std.specs.List.{AllByRecursion}
use Rattle.std.specs.Fmt.{decimal, signed_decimal}
use Rattle.std.specs.Str.{IsUtf8}
use Rattle.jiff.specs.Words.{parse_timestamp}
use Rattle.tc_types.specs.declared.requests.Ack.{Ack}
use Rattle.tc_types.specs.declared.requests.Outcome.{Outcome}
use Rattle.tc_types.specs.declared.requests.Outcome.TheVariants.{Completes}
use Rattle.tc_types.specs.declared.requests.Command.{Command}
use Rattle.tc_types.specs.declared.requests.Command.TheVariants as command
use Rattle.tc_types.specs.Limits.{most_stack_rows}
use Rattle.tc_types.specs.Numbers.{IsMoment, IsOffset, IsApid, IsService, IsSubtype}
use Rattle.tc_types.specs.Grammar.{ack_word, yes_no, outcome_word, IsOutcome, listed}
use Rattle.tc_types.specs.Inserts.{IsInsert}
use Rattle.tc_types.specs.Schedule.{released_at, targets_of}
use Rattle.tc_types.specs.Words.{words}
use Rattle.tc_csv.specs.declared.columns.Column.{Column}
use Rattle.tc_csv.specs.declared.columns.Column.TheVariants as column
use Rattle.tc_csv.specs.declared.faults.Rule.{Rule}
use Rattle.tc_csv.specs.declared.faults.Rule.TheVariants as rule
use Rattle.tc_csv.specs.declared.faults.Fault.{Fault}
use Rattle.tc_csv.specs.Faults.{KeepsAll, FirstBrokenRow}
use Rattle.tc_csv.specs.Rows.{SpellRows, IsOnly}
use Rattle.tc_csv.specs.Tables.{records_of, number_field, KeepsTable, table_rules, IsTableFault}
use Rattle.tc_csv.specs.declared.stack_texts.commands.CommandKind.{CommandKind}
use Rattle.tc_csv.specs.declared.stack_texts.commands.CommandKind.TheVariants as kind
use Rattle.tc_stack.specs.declared.stacks.StackRow.{StackRow}
use Rattle.tc_stack.specs.Stacks.{IsEarlier, IsRow, IsStack, first_barred}

abbrev pub stack_columns : List Column
stack_columns =
    column.Line ∷ column.Apid ∷ column.Service ∷ column.Subtype ∷ column.Target ∷ column.Time ∷ column.Ack ∷ column.Critical ∷ column.After
    ∷ column.Outcome ∷ []

-- ---- what is commanded

abbrev pub kind_of : Command → CommandKind
kind_of (command.Plain service subtype) = kind.Plain service subtype
kind_of command.EnableSchedule = kind.Enable
kind_of command.DisableSchedule = kind.Disable
kind_of command.ResetSchedule = kind.Reset
kind_of (command.InsertActivities rides) = kind.Insert
kind_of (command.DeleteActivity target) = kind.Delete
kind_of (command.ShiftActivity target offset) = kind.Shift
kind_of (command.ShiftAll offset) = kind.ShiftAll
kind_of command.SummarizeAll = kind.Summarize

-- service and subtype (ECSS-E-ST-70-41C, service 11, for the subtypes)
abbrev pub kind_words : CommandKind → List (List ℕ)
kind_words (kind.Plain service subtype) = decimal service ∷ decimal subtype ∷ []
kind_words kind.Enable = decimal 11 ∷ decimal 1 ∷ []
kind_words kind.Disable = decimal 11 ∷ decimal 2 ∷ []
kind_words kind.Reset = decimal 11 ∷ decimal 3 ∷ []
kind_words kind.Insert = decimal 11 ∷ decimal 4 ∷ []
kind_words kind.Delete = decimal 11 ∷ decimal 5 ∷ []
kind_words kind.Shift = decimal 11 ∷ decimal 7 ∷ []
kind_words kind.ShiftAll = decimal 11 ∷ decimal 15 ∷ []
kind_words kind.Summarize = decimal 11 ∷ decimal 17 ∷ []

abbrev pub IsKind : CommandKind → Type 0
IsKind (kind.Plain service subtype) = IsService service × IsSubtype subtype
IsKind other = Unit {0}

abbrev pub is_plain : CommandKind → Bool
is_plain (kind.Plain service subtype) = true
is_plain other = false

-- an instant of whole seconds
abbrev pub IsInstant : ℕ → List ℕ → Type 0
IsInstant seconds field = IsUtf8 field × (parse_timestamp field ≡ Ok (pos (seconds * 1000000000)))

-- instants, each of one of these moments, in their order
abbrev pub AreInstants : List ℕ → List (List ℕ) → Type 0
AreInstants [] [] = ⊤
AreInstants (seconds ∷ others) (field ∷ fields) = IsInstant seconds field × AreInstants others fields
AreInstants other fields = ⊥

-- what stands in a field between its semicolons
abbrev pub parts : List ℕ → List (List ℕ)
parts field = words 59 field

-- the time of a command: of an insert an instant for each activity, of a shift seconds, else nothing
abbrev pub SpellsTime : Command → List ℕ → Type 0
SpellsTime (command.InsertActivities rides) field = AreInstants (map released_at rides) (parts field)
SpellsTime (command.ShiftActivity target offset) field = field ≡ signed_decimal offset
SpellsTime (command.ShiftAll offset) field = field ≡ signed_decimal offset
SpellsTime other field = field ≡ []

-- these fields, the third to the sixth of a row, spell a command
pub record SpellsCommand (fields : List (List ℕ)) (given : Command) : Type 0 where
  pub kind : get_or fields 2 [] ∷ get_or fields 3 [] ∷ [] ≡ kind_words (kind_of given)
  pub target : get_or fields 4 [] ≡ listed decimal (targets_of given)
  pub time : SpellsTime given (get_or fields 5 [])

-- ---- rows

-- these fields spell the row on this line
pub record SpellsRow (line : ℕ) (fields : List (List ℕ)) (row : StackRow) : Type 0 where
  pub count : length fields ≡ 10
  pub number : get_or fields 0 [] ≡ decimal line
  pub apid : get_or fields 1 [] ≡ decimal row.entry.apid
  pub command : SpellsCommand fields row.entry.command
  pub ack : get_or fields 6 [] ≡ ack_word row.entry.ack
  pub critical : get_or fields 7 [] ≡ yes_no row.entry.critical
  pub after : get_or fields 8 [] ≡ number_field row.after
  pub outcome : get_or fields 9 [] ≡ outcome_word row.entry.outcome
  pub stands : IsRow line row

-- A text spells the stack with these rows.
pub record SpellsStack (text : List ℕ) (rows : List StackRow) : Type 0 where
  pub table : KeepsAll (KeepsTable stack_columns most_stack_rows text) table_rules
  pub are : SpellRows SpellsRow 1 (drop 1 (records_of text)) rows
  pub stack : IsStack rows

-- ---- what is wrong with a text that spells none

-- The rules of a row, in order.
abbrev pub row_rules : List Rule
row_rules =
    rule.FieldCount ∷ rule.Line ∷ rule.Apid ∷ rule.Service ∷ rule.Subtype ∷ rule.Target ∷ rule.Time ∷ rule.Ack ∷ rule.Critical ∷ rule.After
    ∷ rule.Outcome ∷ []

-- service and subtype are those of a kind of command
abbrev pub SpellsKind : List (List ℕ) → CommandKind → Type 0
SpellsKind fields given = (get_or fields 2 [] ∷ get_or fields 3 [] ∷ [] ≡ kind_words given) × IsKind given

-- a target of a command of this kind, on this line: of an insert 1 to 8 earlier lines, parted by semicolons; else an earlier line, or nothing
abbrev pub IsTargetField : ℕ → CommandKind → List ℕ → Type 0
IsTargetField line kind.Insert field = (lines : List ℕ) × (IsInsert lines × AllByRecursion (IsEarlier line) lines) × (field ≡ listed decimal lines)
IsTargetField line kind.Delete field = (named : ℕ) × IsEarlier line named × (field ≡ decimal named)
IsTargetField line kind.Shift field = (named : ℕ) × IsEarlier line named × (field ≡ decimal named)
IsTargetField line other field = field ≡ []

-- a time of a command of this kind with this target: of an insert as many instants as the target has parts; else seconds, or nothing
abbrev pub IsTimeField : CommandKind → List ℕ → List ℕ → Type 0
IsTimeField kind.Insert target field =
    (times : List ℕ) × (length times ≡ length (parts target)) × AllByRecursion IsMoment times × AreInstants times (parts field)
IsTimeField kind.Shift target field = (offset : ℤ) × IsOffset offset × (field ≡ signed_decimal offset)
IsTimeField kind.ShiftAll target field = (offset : ℤ) × IsOffset offset × (field ≡ signed_decimal offset)
IsTimeField other target field = field ≡ []

-- the service of a schedule command
abbrev pub IsScheduling : List ℕ → Type 0
IsScheduling service = service ≡ decimal 11

-- a row keeps a rule, by its line and its fields; the other rules are not of a row
abbrev pub KeepsRow : ℕ → List (List ℕ) → Rule → Type 0
KeepsRow line fields rule.FieldCount = length fields ≡ 10
KeepsRow line fields rule.Line = get_or fields 0 [] ≡ decimal line
KeepsRow line fields rule.Apid = (apid : ℕ) × IsApid apid × (get_or fields 1 [] ≡ decimal apid)
KeepsRow line fields rule.Service = (service : ℕ) × ((0 < service) × (service < 256)) × (get_or fields 2 [] ≡ decimal service)
KeepsRow line fields rule.Subtype = (given : CommandKind) × SpellsKind fields given
KeepsRow line fields rule.Target = (given : CommandKind) × SpellsKind fields given × IsTargetField line given (get_or fields 4 [])
KeepsRow line fields rule.Time = (given : CommandKind) × SpellsKind fields given × IsTimeField given (get_or fields 4 []) (get_or fields 5 [])
KeepsRow line fields rule.Ack = (ack : Ack) × (IsScheduling (get_or fields 2 []) → ack.completion ≡ true) × (get_or fields 6 [] ≡ ack_word ack)
KeepsRow line fields rule.Critical = (critical : Bool) × (get_or fields 7 [] ≡ yes_no critical)
KeepsRow line fields rule.After = (after : Option ℕ) × IfSome after (IsEarlier line) × (get_or fields 8 [] ≡ number_field after)
KeepsRow line fields rule.Outcome =
    (outcome : Outcome) × (IsOutcome outcome × (IsScheduling (get_or fields 2 []) → outcome ≡ Completes)) × (get_or fields 9 [] ≡ outcome_word outcome)
KeepsRow line fields other = ⊤

-- the first row whose command names a row that it may not name
pub record IsBarred (rows : List StackRow) (fault : Fault) : Type 0 where
  pub row : first_barred rows 1 rows ≡ Some fault.row
  pub broken : fault.rule ≡ rule.TargetRow

-- the rows that the records of a text spell, where one names a row that it may not name
pub record HasBarred (text : List ℕ) (fault : Fault) : Type 0 where
  pub rows : List StackRow
  pub are : IsOnly (SpellRows SpellsRow 1 (drop 1 (records_of text))) rows
  pub barred : IsBarred rows fault

-- The first rule that a text breaks, and where: a rule of the table; or of the first row that breaks one; or, where all rows keep
-- theirs, what the first row with such a target names.
abbrev pub IsStackFault : List ℕ → Fault → Type 0
IsStackFault text fault =
    IsTableFault stack_columns most_stack_rows text fault
    ⊎ (KeepsAll (KeepsTable stack_columns most_stack_rows text) table_rules
    × (FirstBrokenRow KeepsRow row_rules 1 (drop 1 (records_of text)) fault ⊎ HasBarred text fault))

-- what is told of a text: its fault, or that it spells a stack
abbrev pub Tells : List ℕ → Option Fault → Type 0
Tells text None = (rows : List StackRow) × SpellsStack text rows
Tells text (Some fault) = IsStackFault text fault
