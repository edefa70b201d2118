pub mod AlertLemmas
pub mod CallLemmas
mod Carrying
pub mod FairLemmas
mod WidthLemmas
pub mod FrameLemmas
pub mod FrontLemmas
pub mod MoveLemmas
pub mod OpenLemmas
pub mod QueueLemmas
pub mod RequestLemmas
pub mod SlotLemmas
pub mod Standing
pub mod TableLemmas
pub mod WaitLemmas
