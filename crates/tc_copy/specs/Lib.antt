pub mod Pairs
pub mod Marks
pub mod Files
pub mod Asked
pub mod Copies
pub mod Tries
