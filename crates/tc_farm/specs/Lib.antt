pub mod ControlWord
pub mod Farm
pub mod FarmLaws
