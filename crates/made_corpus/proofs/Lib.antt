pub mod FileLemmas
pub mod ItemLemmas
pub mod LineLemmas
pub mod NameLemmas
pub mod CountLemmas
pub mod SummaryLemmas
mod Worked
