mod ToldLemmas
pub mod RoomLemmas
mod TableLemmas
mod OpeningLemmas
pub mod LoadLemmas
mod ReplyLemmas
mod LogLemmas
mod StopLemmas
mod LookLemmas
pub mod ReportLemmas
pub mod CallLemmas
mod OnceLemmas
pub mod TruthLemmas
