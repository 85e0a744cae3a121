pub mod Accesses
pub mod Right
pub mod Advance
pub mod Loops
pub mod Nodes
pub mod Counts
mod Worked
