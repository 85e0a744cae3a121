-- Lemmas, and worked examples.
pub mod ActionSteps
pub mod BatchLemmas
pub mod BatchSteps
mod Exits
pub mod LocalEdits
mod Prelude
pub mod Replies
pub mod SaveReplies
pub mod Scripts
pub mod Service
pub mod Stops
pub mod TaskLemmas
pub mod TellingLemmas
pub mod WatchReplies
