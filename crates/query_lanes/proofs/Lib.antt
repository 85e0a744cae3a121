pub mod ListLemmas
pub mod ReaderLemmas
pub mod MergeLemmas
pub mod LaneLemmas
pub mod EachLane
pub mod Crossings
mod BatchLemmas
mod Worked
