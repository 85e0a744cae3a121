pub mod Agreement
pub mod Changed
pub mod Laws
pub mod Windows
