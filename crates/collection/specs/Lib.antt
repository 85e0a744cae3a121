pub mod Engines
pub mod Changes
pub mod Settling
pub mod Calls
