-- All that is wrong with the text of a procedure.
use Rattle.std.proofs.Common.{◌≡◌, ◌∙◌, inl, inr, ℕ, ◌+◌, List, [], ◌∷◌, length, drop, refl, sym, ap, subst, arith}
use Rattle.std.specs.List.{AllByRecursion}
use Rattle.std.specs.Fmt.{decimal}
use Rattle.std.proofs.lemmas.List.{length-drop}
use Rattle.tc_csv.specs.declared.faults.Fault.{Fault}
use Rattle.tc_csv.specs.Faults.{KeepsAll}
use Rattle.tc_csv.specs.FaultLists.{BrokenRows, first_fault}
use Rattle.tc_csv.specs.Tables.{records_of, header, HasHeader, IsTable, KeepsTable, table_rules}
use Rattle.tc_csv.proofs.RowLemmas.{kept_unbroken, table_once}
use Rattle.tc_csv.proofs.FaultListLemmas.{head_broken, broken_once}
use Rattle.tc_proc.specs.declared.procedures.Step.{Step}
use Rattle.tc_csv.specs.ProcedureTexts.{step_record, step_records, step_rules, KeepsStep, Tells, procedure_columns}
use Rattle.tc_proc.specs.Procedures.{IsStep}
use Rattle.tc_csv.specs.ProcedureFaults.{AreProcedureFaults}
use Rattle.tc_csv.proofs.ProcedureRowLemmas.{records_length}

-- ---- rows that keep all rules

-- a row that keeps all rules is the record of a step
kept_step : (number : ℕ) (fields : List (List ℕ)) → KeepsAll (KeepsStep number fields) step_rules → (step : Step) × (fields ≡ step_record number step) × IsStep step
kept_step number [] kept = let many = kept.0 in absurd (omega (arith, many))
kept_step number (a ∷ []) kept = let many = kept.0 in absurd (omega (arith, many))
kept_step number (a ∷ b ∷ []) kept = let many = kept.0 in absurd (omega (arith, many))
kept_step number (a ∷ b ∷ c ∷ []) kept = let many = kept.0 in absurd (omega (arith, many))
kept_step number (a ∷ b ∷ c ∷ d ∷ []) kept =
    let (second, marked) = kept.1.1.1.0 in
    let (request, small, named) = kept.1.1.1.1.0 in
    let number_is : a ≡ decimal number = kept.1.0 in (
      record { text = b; is_countersigned = second; request = request },
      (λ i. number_is i ∷ b ∷ marked i ∷ named i ∷ []),
      record { text = kept.1.1.0; request = small },
    )
kept_step number (a ∷ b ∷ c ∷ d ∷ e ∷ es) kept = let many = kept.0 in absurd (omega (arith, many))

kept_steps : (number : ℕ) (rows : List (List (List ℕ))) → BrokenRows KeepsStep step_rules number rows []
    → (steps : List Step) × (rows ≡ step_records number steps) × AllByRecursion IsStep steps
kept_steps number [] none = ([], refl, tt)
kept_steps number (row ∷ rows) (inl (kept, more)) =
    let (step, is, keeps) = kept_step number row kept in
    let (steps, are, each) = kept_steps (number + 1) rows more in
    (step ∷ steps, (λ i. is i ∷ are i), (keeps, each))
kept_steps number (row ∷ rows) (inr (fault, others, is, broken, more)) = cc

headed : (rows : List (List (List ℕ))) (names : List (List ℕ)) → HasHeader names rows → rows ≡ names ∷ drop 1 rows
headed [] names has = absurd has
headed (first ∷ rows) names has = ap (λ x. x ∷ rows) has

kept_spelled : (text : List ℕ) → KeepsAll (KeepsTable procedure_columns 100 text) table_rules → BrokenRows KeepsStep step_rules 1 (drop 1 (records_of text)) [] → Tells text (first_fault [])
kept_spelled text kept none =
    let (steps, are, each) = kept_steps 1 (drop 1 (records_of text)) none in
    let len = records_length 1 steps in
    let all : length (drop 1 (records_of text)) ≡ length (step_records 1 steps) = ap length are in
    let rest = length-drop 1 (records_of text) in
    let few = kept.1.0 in
    let some = kept.1.1.1.0 in (
      steps,
      record {
        short = kept.0;
        are = headed (records_of text) (header procedure_columns) kept.1.1.0 ∙ ap (λ rows. header procedure_columns ∷ rows) are;
        procedure = record { some = omega (arith, len, all, rest, some); few = omega (arith, len, all, rest, few); each = each };
      },
    )

-- ---- the text

-- the first of all that is wrong is what a load tells
pub faults_first : (text : List ℕ) (faults : List Fault) → AreProcedureFaults text faults → Tells text (first_fault faults)
faults_first text faults (inl (fault, table, is)) = subst (λ (l : List Fault). Tells text (first_fault l)) (sym is) (inl table)
faults_first text [] (inr (kept, none)) = kept_spelled text kept none
faults_first text (fault ∷ others) (inr (kept, broken)) = inr (kept, head_broken KeepsStep step_rules 1 (drop 1 (records_of text)) fault others broken)

-- there is one list of them
pub faults_once : (text : List ℕ) (a b : List Fault) → AreProcedureFaults text a → AreProcedureFaults text b → a ≡ b
faults_once text a b (inl (x, table, is)) (inl (y, also, same)) = is ∙ (ap (λ (f : Fault). f ∷ []) (table_once procedure_columns 100 text x y table also) ∙ sym same)
faults_once text a b (inl (x, table, is)) (inr (kept, rows)) = absurd (kept_unbroken (KeepsTable procedure_columns 100 text) table_rules x.rule kept table.broken)
faults_once text a b (inr (kept, rows)) (inl (y, also, same)) = absurd (kept_unbroken (KeepsTable procedure_columns 100 text) table_rules y.rule kept also.broken)
faults_once text a b (inr (kept, rows)) (inr (table, others)) = broken_once KeepsStep step_rules 1 (drop 1 (records_of text)) a b rows others

-- the rows of a table
pub table_faults : (text : List ℕ) (given : List (List (List ℕ))) (faults : List Fault) → IsTable procedure_columns 100 text given → BrokenRows KeepsStep step_rules 1 (drop 1 given) faults
    → AreProcedureFaults text faults
table_faults text given faults table are = inr (table.kept, subst (λ (records : List (List (List ℕ))). BrokenRows KeepsStep step_rules 1 (drop 1 records) faults) table.are are)
