-- The first rule that a row breaks, among rows that spell steps up to it.
use Rattle.std.proofs.Common.{◌≡◌, inl, inr, ℕ, suc, ◌+◌, ◌<◌, Vec, Global, Bool, true, false, Result, Ok, Err, List, [], ◌∷◌, ◌++◌, length, get_or, take, drop, map, refl, sym, ◌∙◌, ap, arith}
use Rattle.std.specs.List.{AllByRecursion}
use Rattle.csv.specs.Records.{Row, fields_of}
use Rattle.std.proofs.lemmas.List.{length-append, length-drop}
use Rattle.tc_types.specs.Grammar.{yes_no}
use Rattle.tc_csv.specs.declared.faults.Fault.{Fault}
use Rattle.tc_csv.specs.declared.faults.NotRead.{NotRead}
use Rattle.tc_csv.specs.declared.faults.NotRead.TheVariants as not_read
use Rattle.tc_csv.specs.Faults.{Judged, KeepsAll, FirstBroken, FirstBrokenRow}
use Rattle.tc_csv.proofs.RowLemmas.{number_same, kept_unbroken, table_once, row_once, split_at, taken_more}
use Rattle.tc_csv.specs.Tables.{records_of, header, HasHeader, IsTable, KeepsTable, table_rules}
use Rattle.tc_proc.specs.declared.procedures.Step.{Step}
use Rattle.tc_csv.specs.ProcedureTexts.{AreSteps, SpellsProcedure, step_record, step_records, step_rules, KeepsStep, IsProcedureFault, procedure_columns}
use Rattle.tc_proc.specs.Procedures.{IsStep}

-- the record of a step keeps each rule
step_keeps : (number : ℕ) (step : Step) → IsStep step → KeepsAll (KeepsStep number (step_record number step)) step_rules
step_keeps number step is = (refl, (refl, (is.text, ((step.is_countersigned, refl), ((step.request, is.request, refl), tt)))))

-- a text has one fault
pub fault_once : (text : List ℕ) (a b : Fault) → IsProcedureFault text a → IsProcedureFault text b → a ≡ b
fault_once text a b (inl x) (inl y) = table_once procedure_columns 100 text a b x y
fault_once text a b (inl x) (inr y) = absurd (kept_unbroken (KeepsTable procedure_columns 100 text) table_rules a.rule y.0 x.broken)
fault_once text a b (inr x) (inl y) = absurd (kept_unbroken (KeepsTable procedure_columns 100 text) table_rules b.rule x.0 y.broken)
fault_once text a b (inr x) (inr y) = row_once KeepsStep step_rules 1 (drop 1 (records_of text)) a b x.1 y.1

-- rows that spell steps break none
steps_unbroken : (number : ℕ) (steps : List Step) (fault : Fault) → AllByRecursion IsStep steps → FirstBrokenRow KeepsStep step_rules number (step_records number steps) fault → ⊥
steps_unbroken number [] fault each first = first
steps_unbroken number (step ∷ steps) fault each (inl here) = kept_unbroken (KeepsStep number (step_record number step)) step_rules fault.rule (step_keeps number step each.0) here.0
steps_unbroken number (step ∷ steps) fault each (inr later) = steps_unbroken (number + 1) steps fault each.1 later.1

-- a record spells one step
yes_no_same : (a b : Bool) → yes_no a ≡ yes_no b → a ≡ b
yes_no_same true true same = refl
yes_no_same true false same = let lengths : 3 ≡ 2 = ap length same in absurd (omega (arith, lengths))
yes_no_same false true same = let lengths : 2 ≡ 3 = ap length same in absurd (omega (arith, lengths))
yes_no_same false false same = refl

step_same : (number : ℕ) (a b : Step) → IsStep a → IsStep b → step_record number a ≡ step_record number b → a ≡ b
step_same number a b first second same =
    let text : a.text ≡ b.text = ap (λ fields. get_or fields 1 []) same in
    let marked : a.is_countersigned ≡ b.is_countersigned = yes_no_same _ _ (ap (λ fields. get_or fields 2 []) same) in
    let request : a.request ≡ b.request = number_same _ _ first.request second.request (ap (λ fields. get_or fields 3 []) same) in
    λ i. record { text = text i; is_countersigned = marked i; request = request i }

steps_same : (number : ℕ) (a b : List Step) → AllByRecursion IsStep a → AllByRecursion IsStep b → step_records number a ≡ step_records number b → a ≡ b
steps_same number [] [] first second same = refl
steps_same number [] (y ∷ ys) first second same = let lengths : 0 ≡ suc (length (step_records (number + 1) ys)) = ap length same in absurd (omega (arith, lengths))
steps_same number (x ∷ xs) [] first second same = let lengths : suc (length (step_records (number + 1) xs)) ≡ 0 = ap length same in absurd (omega (arith, lengths))
steps_same number (x ∷ xs) (y ∷ ys) first second same =
    let step : x ≡ y = step_same number x y first.0 second.0 (ap (λ rows. get_or rows 0 []) same) in
    let steps : xs ≡ ys = steps_same (number + 1) xs ys first.1 second.1 (ap (drop 1) same) in
    λ i. step i ∷ steps i

-- a text spells one procedure
pub spelled_once : (text : List ℕ) (a b : List Step) → SpellsProcedure text a → SpellsProcedure text b → a ≡ b
spelled_once text a b first second = steps_same 1 a b first.procedure.each second.procedure.each (ap (drop 1) (sym first.are ∙ second.are))

-- each step has one record
pub records_length : (number : ℕ) (steps : List Step) → length (step_records number steps) ≡ length steps
records_length number [] = refl
records_length number (step ∷ steps) = let rest = records_length (number + 1) steps in omega (arith, rest)

-- a text that spells a procedure keeps the rules of a table
table_kept : (text : List ℕ) (steps : List Step) → SpellsProcedure text steps → KeepsAll (KeepsTable procedure_columns 100 text) table_rules
table_kept text steps spells =
    let len = records_length 1 steps in
    let all : length (records_of text) ≡ suc (length (step_records 1 steps)) = ap length spells.are in
    let some = spells.procedure.some in
    let few = spells.procedure.few in
    (spells.short, (omega (arith, len, all, few), (rw spells.are refl, (omega (arith, len, all, some), tt))))

-- a text that spells a procedure has no fault
pub spelled_unbroken : (text : List ℕ) (steps : List Step) (fault : Fault) → SpellsProcedure text steps → IsProcedureFault text fault → ⊥
spelled_unbroken text steps fault spells (inl table) = kept_unbroken (KeepsTable procedure_columns 100 text) table_rules fault.rule (table_kept text steps spells) table.broken
spelled_unbroken text steps fault spells (inr rows) = steps_unbroken 1 steps fault spells.procedure.each (rw spells.are at rows.1)

-- one row more, and one step
pub records_more : (number m : ℕ) (steps : List Step) (step : Step) → m ≡ number + length steps → step_records number (steps ++ step ∷ []) ≡ step_records number steps ++ step_record m step ∷ []
records_more number m [] step at = let same : m ≡ number = omega (arith, at) in rw same refl
records_more number m (x ∷ xs) step at = ap (λ rows. step_record number x ∷ rows) (records_more (number + 1) m xs step (omega (arith, at)))

pub steps_more : (steps : List Step) (step : Step) → AllByRecursion IsStep steps → IsStep step → AllByRecursion IsStep (steps ++ step ∷ [])
steps_more [] step each is = (is, tt)
steps_more (x ∷ xs) step each is = (each.0, steps_more xs step each.1 is)

-- the fault of a row behind rows that spell steps
pub fault_behind : (number m : ℕ) (steps : List Step) (row : List (List ℕ)) (rows : List (List (List ℕ))) (fault : Fault) → m ≡ number + length steps → AllByRecursion IsStep steps
    → FirstBroken (KeepsStep m row) step_rules fault.rule → fault.row ≡ m → FirstBrokenRow KeepsStep step_rules number (step_records number steps ++ row ∷ rows) fault
fault_behind number m [] row rows fault at each broken is = let same : m ≡ number = omega (arith, at) in inl (rw same at broken, is ∙ same)
fault_behind number m (step ∷ steps) row rows fault at each broken is = inr (step_keeps number step each.0, fault_behind (number + 1) m steps row rows fault (omega (arith, at)) each.1 broken is)

-- a table whose rows are told to spell steps, or to break a rule
pub table_judged : (text : List ℕ) (given : List (List (List ℕ))) (r : Result (Vec Step Global) NotRead) → IsTable procedure_columns 100 text given
    → Judged (λ (v : Vec Step Global). AreSteps (drop 1 given) v.items) (FirstBrokenRow KeepsStep step_rules 1 (drop 1 given)) r
    → Judged (λ (v : Vec Step Global). SpellsProcedure text v.items) (IsProcedureFault text) r
table_judged text given (Ok v) table judged =
    let len = records_length 1 v.items in
    let all : length (drop 1 given) ≡ length (step_records 1 v.items) = ap length judged.are in
    let rest = length-drop 1 given in
    let same : length given ≡ length (records_of text) = ap length table.are in
    let few = table.kept.1.0 in
    let some = table.kept.1.1.1.0 in
    record {
      short = table.kept.0;
      are = sym table.are ∙ headed given (header procedure_columns) (rw (sym table.are) at table.kept.1.1.0) ∙ ap (λ rows. header procedure_columns ∷ rows) judged.are;
      procedure = record { some = omega (arith, len, all, rest, same, some); few = omega (arith, len, all, rest, same, few); each = judged.each };
    }
  where
    headed : (rows : List (List (List ℕ))) (names : List (List ℕ)) → HasHeader names rows → rows ≡ names ∷ drop 1 rows
    headed [] names has = absurd has
    headed (first ∷ rows) names has = ap (λ x. x ∷ rows) has
table_judged text given (Err (not_read.Wrong fault)) table judged = inr (table.kept, rw table.are at judged)
table_judged text given (Err not_read.Memory) table judged = tt

-- one row more that spells a step
pub row_more : (rows : List Row) (i : ℕ) (row : Row) (steps : List Step) (step : Step) → i < length rows → row ≡ get_or rows i row
    → (take i (map fields_of rows) ≡ step_records 1 steps) × AllByRecursion IsStep steps × (length steps ≡ i) → (fields_of row ≡ step_record (i + 1) step) × IsStep step
    → (take (i + 1) (map fields_of rows) ≡ step_records 1 (steps ++ step ∷ [])) × AllByRecursion IsStep (steps ++ step ∷ []) × (length (steps ++ step ∷ []) ≡ i + 1)
row_more rows i row steps step low is so here =
    let len = length-append steps (step ∷ []) in
    let count = so.2 in
    let more = taken_more rows i row low is in
    let spelled = records_more 1 (i + 1) steps step (omega (arith, count)) in
    (more ∙ rw (so.0, here.0) refl ∙ sym spelled, steps_more steps step so.1 here.1, omega (arith, len, count))

-- the fault of a row is the fault of the rows
pub row_judged : (rows : List Row) (i : ℕ) (row : Row) (steps : List Step) (e : NotRead) → i < length rows → row ≡ get_or rows i row
    → (take i (map fields_of rows) ≡ step_records 1 steps) × AllByRecursion IsStep steps × (length steps ≡ i)
    → Judged {T = Step} (λ step. (fields_of row ≡ step_record (i + 1) step) × IsStep step) (λ fault. FirstBroken (KeepsStep (i + 1) (fields_of row)) step_rules fault.rule × (fault.row ≡ i + 1)) (Err e)
    → Judged {T = Vec Step Global} (λ v. AreSteps (map fields_of rows) v.items) (FirstBrokenRow KeepsStep step_rules 1 (map fields_of rows)) (Err e)
row_judged rows i row steps not_read.Memory low is so judged = tt
row_judged rows i row steps (not_read.Wrong fault) low is so judged =
    let count = so.2 in
    let whole = split_at rows i row low is in
    rw (whole, so.0) (fault_behind 1 (i + 1) steps (fields_of row) (drop (suc i) (map fields_of rows)) fault (omega (arith, count)) so.1 judged.0 judged.1)
