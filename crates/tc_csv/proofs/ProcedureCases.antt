-- The definitions carried out on the text of a procedure of two steps, of which the second wants a second person and releases request 1.
use Rattle.std.proofs.Common.{◌≡◌, true, false, Some, None, List, [], ◌∷◌, codes, refl}
use Rattle.std.specs.Fmt.{digits}
use Rattle.csv.specs.Machine.{next_record}
use Rattle.csv.specs.Reading.{records_from, strip_bom}
use Rattle.tc_csv.specs.Tables.{records_of, header}
use Rattle.tc_csv.specs.ProcedureTexts.{procedure_columns, step_records}
use Rattle.tc_proc.specs.declared.procedures.Step.{Step}

abbrev two : List Step
two =
    record { text = codes "check power"; is_countersigned = false; request = None }
    ∷ record { text = codes "switch on"; is_countersigned = true; request = Some 1 } ∷ []

pub spelled : records_of (codes "step,text,second,request\n1,check power,no,\n2,switch on,yes,1\n") ≡ header procedure_columns ∷ step_records 1 two
unfolding next_record records_from strip_bom digits
spelled = refl
