pub mod HexLemmas
pub mod AnswerLemmas
