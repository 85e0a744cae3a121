pub mod Keeping
pub mod Pieces
mod Worked
