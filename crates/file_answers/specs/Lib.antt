pub mod Outputs
pub mod Passing
pub mod Searched
pub mod Written
