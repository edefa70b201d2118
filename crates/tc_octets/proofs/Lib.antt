pub mod BitLemmas
pub mod NumberWords
pub mod LineLemmas
pub mod ProfileTextLemmas
pub mod ProfileValueLemmas
pub mod ProfileLineLemmas
pub mod ProfilePrintLemmas
pub mod ProfileTextLaws
pub mod StandardLemmas
pub mod RegisterLemmas
pub mod RandomizerLemmas
pub mod TcFrameLemmas
pub mod TcFrameLaws
pub mod TmFrameLaws
pub mod TmFrameLemmas
pub mod CrcLawLemmas
pub mod CrcWholeLemmas
mod CodeCases
pub mod CodeblockLemmas
pub mod SyndromeLemmas
pub mod CodeblockLawLemmas
pub mod MarkerFrameLemmas
pub mod MarkerLemmas
pub mod MarkerLawLemmas
pub mod CltuLemmas
pub mod CltuRunLemmas
pub mod IdleLemmas
pub mod FrameBackLemmas
pub mod CltuFrameLemmas
pub mod BringLemmas
mod CltuCases
mod ProfileCases
