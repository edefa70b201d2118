pub mod HeaderLemmas
pub mod RecordLemmas
pub mod RowLemmas
pub mod WorkedCases
pub mod FaultListLemmas
pub mod CommandLemmas
pub mod StackFaultLemmas
pub mod InsertLemmas
mod StackCases
pub mod StackRowLemmas
pub mod StackTextLemmas
pub mod ProcedureFaultLemmas
pub mod ProcedureRowLemmas
mod ProcedureCases
