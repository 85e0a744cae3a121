pub mod Blanks
pub mod Lines
pub mod Feeds
pub mod Numbers
pub mod Commands
pub mod Answers
