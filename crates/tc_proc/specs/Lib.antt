pub mod Executions
pub mod Procedures
pub mod Logs
pub mod GoodLogs
pub mod KeptLogs
pub mod Faults
