pub mod Better
pub mod Farthest
pub mod Directions
pub mod Laws
