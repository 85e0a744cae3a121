mod Worked
pub mod PairLemmas
pub mod ProgramLemmas
pub mod TurnLemmas
pub mod WordLemmas
pub mod ReadLemmas
pub mod LevelLemmas
pub mod TextLemmas
pub mod LimitLemmas
