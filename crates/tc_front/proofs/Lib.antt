pub mod EndLemmas
pub mod WordLemmas
pub mod FieldLemmas
pub mod JudgeLemmas
pub mod FrontLemmas
pub mod DoorLemmas
pub mod WantedLemmas
pub mod ReadLemmas
pub mod QueueLemmas
pub mod WriteLemmas
mod SeekLaws
mod WalkLaws
mod PathLaws
mod RouteLaws
mod TextLaws
mod DeskLaws
