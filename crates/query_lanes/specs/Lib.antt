pub mod WellFormedOnce
pub mod Answers
pub mod Readers
pub mod Merges
pub mod inner
