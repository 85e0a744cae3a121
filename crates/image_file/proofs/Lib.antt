pub mod TermTables
pub mod TermsOfWords
pub mod Packing
pub mod Decoding
pub mod ImageLaws
pub mod Writing
pub mod Saving
mod Worked
