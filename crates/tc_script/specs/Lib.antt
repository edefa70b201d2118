pub mod Verbs
pub mod Sorts
pub mod Slots
pub mod Fits
pub mod Faults
pub mod SlotTexts
