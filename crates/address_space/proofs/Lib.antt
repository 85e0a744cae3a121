pub mod RunLemmas
pub mod NameLemmas
pub mod CollectionLemmas
pub mod WordLemmas
pub mod TierLemmas
pub mod TailLemmas
mod WorkedRuns
