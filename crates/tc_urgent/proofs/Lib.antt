pub mod LineLemmas
pub mod MoveLemmas
pub mod LawLemmas
pub mod FoldLemmas
pub mod NeverLemmas
pub mod RankLemmas
pub mod OneLine
pub mod SilentLemmas
mod SortLemmas
