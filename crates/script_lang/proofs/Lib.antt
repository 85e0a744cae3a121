pub mod AnswerLemmas
pub mod CommandLemmas
pub mod EndedLemmas
pub mod FeedLemmas
pub mod LineLemmas
pub mod NumberLemmas
pub mod PutLemmas
mod WorkedAnswers
mod WorkedCommands
mod WorkedLines
