pub mod WallPages
pub mod Closed
pub mod Reports
pub mod Walls
pub mod Scripts
pub mod Files
pub mod Checking
