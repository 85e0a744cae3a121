pub mod Finders
pub mod Windows
