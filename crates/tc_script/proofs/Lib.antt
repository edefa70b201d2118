pub mod FormLemmas
pub mod ListLemmas
pub mod WordLemmas
pub mod NextWord
pub mod EntryWords
pub mod ActWords
pub mod LineWords
pub mod WrongLemmas
