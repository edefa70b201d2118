pub mod ShownLemmas
pub mod FindingLemmas
pub mod HeaderLemmas
pub mod MarkLemmas
pub mod SaysLemmas
pub mod ScriptLemmas
mod WorkedCases
