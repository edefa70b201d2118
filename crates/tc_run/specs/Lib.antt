pub mod Crash
pub mod Kept
pub mod Run
pub mod Stops
