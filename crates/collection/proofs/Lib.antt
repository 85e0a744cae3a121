pub mod EngineLemmas
pub mod SettlingLemmas
pub mod ChangeLemmas
pub mod CallLemmas
mod Worked
pub mod FrontLemmas
