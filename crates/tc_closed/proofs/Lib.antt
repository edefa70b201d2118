pub mod ReadLemmas
pub mod CheckingLemmas
pub mod EndsLemmas
mod ScriptLemmas
pub mod ReportLemmas
