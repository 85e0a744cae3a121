pub mod Lines
pub mod Order
pub mod Shown
pub mod Texts
