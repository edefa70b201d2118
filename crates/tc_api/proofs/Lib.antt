mod ExchangeLemmas
pub mod KeptLemmas
mod LineLemmas
pub mod OnceLemmas
mod OneLemmas
mod OpeningLemmas
mod ResponseLemmas
mod ServingLemmas
mod EachLemmas
