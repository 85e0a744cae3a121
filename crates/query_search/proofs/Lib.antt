pub mod PageLemmas
pub mod SearchLemmas
mod WayLemmas
pub mod ReadingLemmas
pub mod QueryLemmas
pub mod Crossings
