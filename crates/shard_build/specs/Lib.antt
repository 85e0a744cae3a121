pub mod Ahead
pub mod Groups
pub mod Met
pub mod Handed
