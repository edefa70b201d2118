pub mod Approvals
pub mod Given
pub mod Stacks
