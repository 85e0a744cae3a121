pub mod FileTexts
pub mod Names
pub mod Laws
pub mod Tables
pub mod Kept
pub mod Matching
