pub mod Finds
pub mod Places
pub mod Rows
pub mod Passed
pub mod Between
pub mod Members
pub mod Ring
pub mod Asked
pub mod Steps
pub mod OneWord
mod Worked
