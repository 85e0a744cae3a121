pub mod MergeLemmas
pub mod NameLemmas
pub mod TableLemmas
pub mod NameTables
pub mod PlaceSearch
pub mod FileLemmas
pub mod ListLemmas
pub mod MatchLemmas
mod Worked
