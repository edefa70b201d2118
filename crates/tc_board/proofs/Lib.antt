mod DueLemmas
mod FollowLemmas
mod LogWalks
mod LoopLemmas
mod MirrorLemmas
pub mod NameLemmas
mod PlaceLemmas
pub mod RollLemmas
mod SortLemmas
mod SoundLemmas
mod StepLemmas
pub mod SummaryLemmas
mod WorkedCases
