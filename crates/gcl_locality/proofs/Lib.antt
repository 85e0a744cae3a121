pub mod Alike
pub mod Bounds
pub mod Locality
pub mod Windows
mod Worked
