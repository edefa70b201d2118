pub mod Answers
pub mod HexTexts
pub mod ProfileProblems
