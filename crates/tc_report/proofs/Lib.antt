pub mod TextLemmas
pub mod RowLemmas
pub mod OneLemmas
pub mod LineLemmas
