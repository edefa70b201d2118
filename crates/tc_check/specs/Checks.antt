-- What `check` says of the text of a file.
use Rattle.std.specs.Prelude.{◌≡◌, ℕ, Bool, true, false, if◌then◌else◌, Option, List, [], ◌∷◌, ◌++◌, codes, map}
use Rattle.tc_types.specs.declared.loads.LoadKind.{LoadKind}
use Rattle.tc_types.specs.declared.loads.LoadKind.TheVariants as kind
use Rattle.tc_csv.specs.declared.faults.Fault.{Fault}
use Rattle.tc_csv.specs.FaultLists.{first_fault}
use Rattle.tc_csv.specs.StackFaults.{AreStackFaults}
use Rattle.tc_csv.specs.StackTexts as stack
use Rattle.tc_csv.specs.ProcedureFaults.{AreProcedureFaults}
use Rattle.tc_csv.specs.ProcedureTexts as procedure
use Rattle.tc_check.specs.Findings.{first_line, is_none_found, shown_lines}
use Rattle.tc_check.specs.Notes.{notes_of}
use Rattle.tc_check.specs.Told.{fault_line}

-- what a load tells of a text of this kind: the first rule that it breaks, and where; or that it spells a stack or a procedure
abbrev pub Tells : LoadKind → List ℕ → Option Fault → Type 0
Tells kind.Stack text told = stack.Tells text told
Tells kind.Procedure text told = procedure.Tells text told

-- all that is wrong with it
abbrev pub AreFaults : LoadKind → List ℕ → List Fault → Type 0
AreFaults kind.Stack text faults = AreStackFaults text faults
AreFaults kind.Procedure text faults = AreProcedureFaults text faults

-- nothing is wrong: a stack that is spelled can be loaded; a procedure, where no step names request 0, which nobody enters
abbrev pub is_loadable : LoadKind → List ℕ → Bool
is_loadable kind.Stack text = true
is_loadable kind.Procedure text = is_none_found (notes_of kind.Procedure text)

abbrev pub is_ok_told : LoadKind → List ℕ → List Fault → Bool
is_ok_told of text [] = is_loadable of text
is_ok_told of text (fault ∷ faults) = false

-- what is told, in lines: where it is wrong, and why; or what is told of rows besides
abbrev pub lines_told : LoadKind → List ℕ → List Fault → List (List ℕ)
lines_told of text [] = notes_of of text
lines_told of text (fault ∷ faults) = map (fault_line of text) (fault ∷ faults)

-- `ok` stands in front where nothing is wrong
abbrev pub told_text : LoadKind → List ℕ → List Fault → List ℕ
told_text of text faults = (if is_ok_told of text faults then codes "ok\n" else []) ++ shown_lines (lines_told of text faults)

-- What is said of a text of this kind, what stands first of it, and whether nothing is wrong. The first of its faults is the one that a load tells.
pub record Says (of : LoadKind) (text told first : List ℕ) (is_ok : Bool) : Type 0 where
  pub faults : List Fault
  pub are : AreFaults of text faults
  pub tells : Tells of text (first_fault faults)
  pub said : told ≡ told_text of text faults
  pub front : first ≡ first_line (lines_told of text faults)
  pub ok : is_ok ≡ is_ok_told of text faults
