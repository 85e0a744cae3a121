pub mod VisitLemmas
pub mod AheadLemmas
pub mod FileLemmas
pub mod DefineLemmas
pub mod EndLemmas
mod Worked
