pub mod Searches
pub mod Digits
pub mod Ranks
mod Worked
