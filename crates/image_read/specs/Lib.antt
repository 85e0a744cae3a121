pub mod Reading
pub mod Stretches
pub mod Tables
pub mod Fronts
pub mod Answers
pub mod Bits
