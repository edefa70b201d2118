-- Why a text breaks a rule: what does not stand there, or stands there and may not.
use Rattle.std.specs.Prelude.{ℕ, Bool, if◌then◌else◌, List, codes}
use Rattle.tc_types.specs.declared.loads.LoadKind.{LoadKind}
use Rattle.tc_types.specs.declared.loads.LoadKind.TheVariants as kind
use Rattle.tc_csv.specs.declared.faults.Rule.{Rule}
use Rattle.tc_csv.specs.declared.faults.Rule.TheVariants as rule
use Rattle.tc_script.specs.declared.sorts.Sort.{Sort}
use Rattle.tc_script.specs.declared.sorts.Sort.TheVariants.{Insert, Delete, Shift, ShiftAll, Other}

abbrev pub why_header : LoadKind → List ℕ
why_header kind.Stack = codes "not line,apid,service,subtype,target,time,ack,critical,after,outcome"
why_header kind.Procedure = codes "not step,text,second,request"

abbrev pub why_rows : LoadKind → List ℕ
why_rows kind.Stack = codes "more than 200 lines"
why_rows kind.Procedure = codes "more than 100 steps"

abbrev pub why_fields : LoadKind → List ℕ
why_fields kind.Stack = codes "not 10 fields"
why_fields kind.Procedure = codes "not 4 fields"

abbrev pub why_subtype : Sort → List ℕ
why_subtype Other = codes "not 1 to 255 in plain digits"
why_subtype _ = codes "not 1, 2, 3, 4, 5, 7, 15 or 17, which service 11 has"

abbrev pub why_target : Sort → List ℕ
why_target Insert = codes "not 1 to 8 earlier lines, parted by ;"
why_target Delete = codes "not an earlier line"
why_target Shift = codes "not an earlier line"
why_target _ = codes "not empty"

-- of an insert: too few times or too many, or one of them is no instant that the desk takes
abbrev pub why_instants : Bool → List ℕ
why_instants has_each =
    if has_each then codes "not instants of whole seconds from 1970 to 2099 with an offset, such as 2031-05-04T10:00:00Z, parted by ;"
    else codes "not as many instants as targets, parted by ;"

abbrev pub why_time : Sort → Bool → List ℕ
why_time Insert has_each = why_instants has_each
why_time Shift has_each = codes "not seconds, -4102444799 to 4102444799"
why_time ShiftAll has_each = codes "not seconds, -4102444799 to 4102444799"
why_time _ has_each = codes "not empty"

abbrev pub why_ack : Sort → List ℕ
why_ack Other = codes "not aspc, with - for each report that is not wanted"
why_ack _ = codes "not aspc, with - for each report that is not wanted; service 11 wants c"

abbrev pub why_outcome : Sort → List ℕ
why_outcome Other = codes "not an outcome, such as ok or halt/2/17, where a code is 16 to 255"
why_outcome _ = codes "not ok, which service 11 wants"

abbrev pub why_target_row : Sort → List ℕ
why_target_row Insert = codes "a line of service 11, one whose ack has no a, or one that is named twice"
why_target_row _ = codes "a line of service 11"

-- why a text of this kind breaks a rule, at a row that commands this and has a time for each target or not
abbrev pub why : LoadKind → Sort → Bool → Rule → List ℕ
why of sort has_each rule.TextLength = codes "more than 65536 bytes"
why of sort has_each rule.RowCount = why_rows of
why of sort has_each rule.Header = why_header of
why of sort has_each rule.SomeRow = codes "missing"
why of sort has_each rule.FieldCount = why_fields of
why of sort has_each rule.Line = codes "not the number of the line"
why of sort has_each rule.Apid = codes "not 0 to 2047 in plain digits"
why of sort has_each rule.Service = codes "not 1 to 255 in plain digits"
why of sort has_each rule.Subtype = why_subtype sort
why of sort has_each rule.Target = why_target sort
why of sort has_each rule.Time = why_time sort has_each
why of sort has_each rule.Ack = why_ack sort
why of sort has_each rule.Critical = codes "neither yes nor no"
why of sort has_each rule.After = codes "neither empty nor an earlier line"
why of sort has_each rule.Outcome = why_outcome sort
why of sort has_each rule.TargetRow = why_target_row sort
why of sort has_each rule.StepNumber = codes "not the number of the step"
why of sort has_each rule.StepText = codes "not 1 to 80 printable characters of ASCII"
why of sort has_each rule.Second = codes "neither yes nor no"
why of sort has_each rule.StepRequest = codes "neither empty nor a number"
