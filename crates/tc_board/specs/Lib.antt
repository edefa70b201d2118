pub mod Schedule
pub mod Reports
pub mod Board
pub mod Mirror
pub mod Follows
pub mod Names
