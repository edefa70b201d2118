mod MatchLemmas
mod MomentLemmas
mod NumberLemmas
