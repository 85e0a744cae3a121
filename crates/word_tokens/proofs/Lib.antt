pub mod FrontLemmas
pub mod PartLemmas
pub mod TokenLemmas
pub mod SpelledLemmas
pub mod JoinedLemmas
mod Worked
