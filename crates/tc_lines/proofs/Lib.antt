pub mod LinkLaws
pub mod AnswerLines
pub mod ActSpellings
pub mod QueryLaws
pub mod WaitingLines
mod WorkedCases
mod WaitingCases
