pub mod Tables
pub mod Searched
pub mod Laws
pub mod Kept
pub mod Moved
