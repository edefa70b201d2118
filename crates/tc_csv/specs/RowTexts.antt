-- What the parts of a row's reader say to each other.
use Rattle.std.specs.Prelude.{◌≡◌, ℕ, true, Some, IfSome, List, [], ◌∷◌, length, get_or}
use Rattle.std.specs.Fmt.{decimal}
use Rattle.tc_types.specs.declared.requests.Outcome.TheVariants.{Completes}
use Rattle.tc_types.specs.Numbers.{IsApid}
use Rattle.tc_types.specs.Grammar.{Reads, ack_word, yes_no, outcome_word, IsOutcome}
use Rattle.tc_csv.specs.declared.faults.Rule.{Rule}
use Rattle.tc_csv.specs.declared.faults.Rule.TheVariants as rule
use Rattle.tc_csv.specs.Rows.{IsOnly}
use Rattle.tc_csv.specs.Tables.{number_field}
use Rattle.tc_csv.specs.declared.stack_texts.stack_rows.Conduct.{Conduct}
use Rattle.tc_stack.specs.Stacks.{IsEarlier}
use Rattle.tc_stack.specs.declared.stacks.StackRow.{StackRow}
use Rattle.tc_csv.specs.StackTexts.{IsScheduling, SpellsRow, SpellsStack}

-- the rules of a row that come before its command, and those behind it
abbrev pub place_rules : List Rule
place_rules = rule.FieldCount ∷ rule.Line ∷ rule.Apid ∷ []

abbrev pub conduct_rules : List Rule
conduct_rules = rule.Ack ∷ rule.Critical ∷ rule.After ∷ rule.Outcome ∷ []

-- the application process of the row on this line
pub record ReadsPlace (line : ℕ) (fields : List (List ℕ)) (given : ℕ) : Type 0 where
  pub count : length fields ≡ 10
  pub number : get_or fields 0 [] ≡ decimal line
  pub apid : Reads decimal IsApid (get_or fields 1 []) (Some given)

-- what the row on this line asks for, beside its command
pub record ReadsConduct (line : ℕ) (fields : List (List ℕ)) (conduct : Conduct) : Type 0 where
  pub ack : Reads ack_word (λ ack. IsScheduling (get_or fields 2 []) → ack.completion ≡ true) (get_or fields 6 []) (Some conduct.ack)
  pub critical : Reads yes_no (λ _. Unit {0}) (get_or fields 7 []) (Some conduct.critical)
  pub after : Reads number_field (λ after. IfSome after (IsEarlier line)) (get_or fields 8 []) (Some conduct.after)
  pub outcome : Reads outcome_word (λ outcome. IsOutcome outcome × (IsScheduling (get_or fields 2 []) → outcome ≡ Completes)) (get_or fields 9 []) (Some conduct.outcome)

-- a row, the only one that these fields spell on this line
abbrev pub SpellsOnlyRow : ℕ → List (List ℕ) → StackRow → Type 0
SpellsOnlyRow line fields row = IsOnly (SpellsRow line fields) row

-- a text spells these rows, and no others
abbrev pub IsOnlyStack : List ℕ → List StackRow → Type 0
IsOnlyStack text rows = IsOnly (SpellsStack text) rows
