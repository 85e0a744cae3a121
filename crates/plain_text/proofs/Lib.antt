pub mod Entries
pub mod Holders
pub mod Operands
pub mod Rows
pub mod Puts
mod Worked
