pub mod ApprovalLemmas
mod WorkedCases
