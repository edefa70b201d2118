-- What is said of a text is one thing.
use Rattle.std.proofs.Common.{◌≡◌, ◌∙◌, ℕ, Bool, Result, Ok, Err, List, sym, ap}
use Rattle.std.specs.Prelude.{IfOk}
use Rattle.std.specs.String.{string_bytes}
use Rattle.tc_types.specs.declared.loads.LoadKind.{LoadKind}
use Rattle.tc_types.specs.declared.loads.LoadKind.TheVariants as kind
use Rattle.tc_csv.specs.declared.faults.Fault.{Fault}
use Rattle.tc_csv.specs.FaultLists.{first_fault}
use Rattle.tc_csv.proofs.StackFaultLemmas as stack
use Rattle.tc_csv.proofs.ProcedureFaultLemmas as procedure
use Rattle.tc_check.specs.declared.checks.Checked.{Checked}
use Rattle.tc_check.specs.Findings.{first_line}
use Rattle.tc_check.specs.Checks.{AreFaults, Says, Tells, is_ok_told, lines_told, told_text}

faults_once : (of : LoadKind) (text : List ℕ) (a b : List Fault) → AreFaults of text a → AreFaults of text b → a ≡ b
faults_once kind.Stack text a b x y = stack.faults_once text a b x y
faults_once kind.Procedure text a b x y = procedure.faults_once text a b x y

pub says_once : (of : LoadKind) (text a front b other : List ℕ) (p q : Bool) → Says of text a front p → Says of text b other q → (a ≡ b) × (front ≡ other) × (p ≡ q)
says_once of text a front b other p q x y =
    let one = faults_once of text x.faults y.faults x.are y.are in (
      x.said ∙ (ap (told_text of text) one ∙ sym y.said),
      x.front ∙ (ap (λ (faults : List Fault). first_line (lines_told of text faults)) one ∙ sym y.front),
      x.ok ∙ (ap (is_ok_told of text) one ∙ sym y.ok),
    )

-- what is said of a text with these faults
pub says_made : {E : Type 0} (of : LoadKind) (text : List ℕ) (faults : List Fault) (made : Result Checked E) → AreFaults of text faults → Tells of text (first_fault faults)
    → IfOk made (λ c. string_bytes c.text ≡ told_text of text faults) → IfOk made (λ c. string_bytes c.first ≡ first_line (lines_told of text faults)) → IfOk made (λ c. c.is_ok ≡ is_ok_told of text faults)
    → IfOk made (λ c. Says of text (string_bytes c.text) (string_bytes c.first) c.is_ok)
says_made of text faults (Ok c) are tells said front ok = record { faults = faults; are = are; tells = tells; said = said; front = front; ok = ok }
says_made of text faults (Err e) are tells said front ok = said
