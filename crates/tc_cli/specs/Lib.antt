pub mod Closing
pub mod Looping
