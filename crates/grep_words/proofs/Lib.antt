mod Worked
pub mod Taken
