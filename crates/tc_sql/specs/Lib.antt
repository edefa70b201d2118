pub mod Forms
pub mod Contents
pub mod Puts
pub mod Builds
pub mod Lists
pub mod Numbered
pub mod Schemas
