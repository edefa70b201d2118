pub mod Ways
pub mod Urgents
pub mod Links
pub mod Shown
pub mod Gathered
