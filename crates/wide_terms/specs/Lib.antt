pub mod Vocabulary
pub mod Expansion
pub mod Trees
pub mod Laws
