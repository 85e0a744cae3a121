pub mod Ways
pub mod BothOf
pub mod OneOf
mod Worked
