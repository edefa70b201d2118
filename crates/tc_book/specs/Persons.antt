-- Who is named in a book.
use Rattle.std.specs.Prelude.{IfSome}
use Rattle.std.specs.List.{AllByRecursion}
use Rattle.tc_types.specs.declared.requests.Request.{Request}
use Rattle.tc_types.specs.declared.tables.rows.Approval.{Approval}
use Rattle.tc_types.specs.declared.tables.rows.StackApproval.{StackApproval}
use Rattle.tc_types.specs.declared.tables.rows.LoadedProcedure.{LoadedProcedure}
use Rattle.tc_types.specs.declared.tables.rows.BegunExecution.{BegunExecution}
use Rattle.tc_types.specs.declared.tables.rows.StepRecord.{StepRecord}
use Rattle.tc_types.specs.Names.{IsPerson}
use Rattle.tc_book.specs.Book.{Book}

-- who worked a step is a person, and so is the second one, if one is named
abbrev pub NamesRecorders : StepRecord → Type 0
NamesRecorders r = IsPerson r.by × IfSome r.second IsPerson

-- Whoever entered, approved, loaded, began or recorded something is a person, and not the desk itself. Only a move may be the desk's own.
pub record NamesPersons (book : Book) : Type 0 where
  pub authors : AllByRecursion (λ (r : Request). IsPerson r.author) book.requests
  pub approvers : AllByRecursion (λ (a : Approval). IsPerson a.person) book.approvals
  pub stack_approvers : AllByRecursion (λ (a : StackApproval). IsPerson a.person) book.stack_approvals
  pub loaders : AllByRecursion (λ (p : LoadedProcedure). IsPerson p.author) book.log.loaded
  pub beginners : AllByRecursion (λ (x : BegunExecution). IsPerson x.by) book.log.executions
  pub recorders : AllByRecursion NamesRecorders book.log.records
