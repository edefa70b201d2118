pub mod Texts
pub mod ShiftReport
