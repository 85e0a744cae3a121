pub mod Within
mod Worked
