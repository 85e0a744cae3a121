pub mod MaskLemmas
pub mod Joining
pub mod Halving
mod Worked
pub mod PartLemmas
