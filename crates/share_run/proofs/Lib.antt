pub mod NameLemmas
pub mod WorkLemmas
pub mod SideLemmas
pub mod TextLemmas
pub mod WordLemmas
mod Worked
