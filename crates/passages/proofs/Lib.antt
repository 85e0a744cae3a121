pub mod LineLemmas
pub mod PartLemmas
mod Worked
