pub mod Asked
pub mod Commands
pub mod Layers
pub mod Lines
