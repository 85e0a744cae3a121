pub mod NameLemmas
pub mod Renamed
pub mod LeafLemmas
pub mod AskingLemmas
mod Worked
