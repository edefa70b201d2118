-- A command of a known kind, in two fields: what the parts of the reader say to each other.
use Rattle.std.specs.Prelude.{◌≡◌, ⊤, ℕ, List, [], ◌∷◌, map}
use Rattle.std.specs.List.{AllByRecursion}
use Rattle.std.specs.Fmt.{decimal}
use Rattle.tc_types.specs.declared.requests.Command.{Command}
use Rattle.tc_types.specs.declared.rides.Ride.{Ride}
use Rattle.tc_types.specs.Numbers.{IsMoment}
use Rattle.tc_types.specs.Grammar.{IsCommand, listed}
use Rattle.tc_types.specs.Inserts.{IsInsert}
use Rattle.tc_types.specs.Schedule.{ridden, released_at, targets_of}
use Rattle.tc_csv.specs.declared.faults.Rule.{Rule}
use Rattle.tc_csv.specs.declared.faults.Rule.TheVariants as rule
use Rattle.tc_csv.specs.declared.stack_texts.commands.CommandKind.{CommandKind}
use Rattle.tc_stack.specs.Stacks.{IsEarlier}
use Rattle.tc_csv.specs.StackTexts.{kind_of, AreInstants, parts, IsTargetField, IsTimeField, SpellsTime}

-- a command as it may stand on this line
abbrev pub IsCommandAt : ℕ → Command → Type 0
IsCommandAt line given = IsCommand given × AllByRecursion (IsEarlier line) (targets_of given)

-- a command is of this kind, and these fields spell its target and its time
abbrev pub SpellsRest : CommandKind → List ℕ → List ℕ → Command → Type 0
SpellsRest kind target time given = (kind_of given ≡ kind) × (target ≡ listed decimal (targets_of given)) × SpellsTime given time

-- what an insert on this line may name
abbrev pub AreLines : ℕ → List ℕ → Type 0
AreLines line named = IsInsert named × AllByRecursion (IsEarlier line) named

-- activities of these lines, whose instants a field spells
pub record AreAt (named field : List ℕ) (rides : List Ride) : Type 0 where
  pub lines : map ridden rides ≡ named
  pub range : AllByRecursion IsMoment (map released_at rides)
  pub instants : AreInstants (map released_at rides) (parts field)

-- the rules of target and time
abbrev pub rest_rules : List Rule
rest_rules = rule.Target ∷ rule.Time ∷ []

abbrev pub KeepsPair : Type 0 → Type 0 → Rule → Type 0
KeepsPair IsTarget IsTime rule.Target = IsTarget
KeepsPair IsTarget IsTime rule.Time = IsTime
KeepsPair IsTarget IsTime other = ⊤

abbrev pub KeepsRest : ℕ → CommandKind → List ℕ → List ℕ → Rule → Type 0
KeepsRest line kind target time = KeepsPair (IsTargetField line kind target) (IsTimeField kind target time)

-- the rules of the fields that a command has
abbrev pub command_rules : List Rule
command_rules = rule.Service ∷ rule.Subtype ∷ rule.Target ∷ rule.Time ∷ []
