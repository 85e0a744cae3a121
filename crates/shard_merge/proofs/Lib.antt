pub mod SameWords
pub mod TermByTerm
pub mod Runs
mod Worked
