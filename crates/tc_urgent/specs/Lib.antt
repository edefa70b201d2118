pub mod Kinds
pub mod Judging
pub mod Lines
pub mod Folds
pub mod Laws
pub mod Texts
pub mod Pages
