pub mod PlaceLemmas
pub mod WholeParts
pub mod OrderLemmas
pub mod LawLemmas
pub mod WalkLemmas
pub mod FrontLemmas
mod Worked
