pub mod Missions
pub mod FieldRuns
