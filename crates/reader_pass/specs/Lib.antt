pub mod Members
pub mod Sums
