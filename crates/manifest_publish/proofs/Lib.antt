pub mod Prefixes
pub mod HistoryLemmas
pub mod Adding
pub mod Steps
pub mod ReaderLemmas
pub mod Stands
pub mod PlaceLemmas
pub mod Survivors
pub mod OneName
mod Worked
