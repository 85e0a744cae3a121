pub mod Moves
pub mod Kinds
pub mod Laws
