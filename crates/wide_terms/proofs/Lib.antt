pub mod Tokens
pub mod Vocabularies
pub mod Flattening
pub mod Spreading
pub mod Shaping
mod Worked
