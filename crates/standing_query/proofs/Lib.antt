pub mod ChangeLemmas
mod ExactLemmas
pub mod LocalLemmas
mod SideLemmas
pub mod WalkLemmas
mod WatchLemmas
mod Worked
