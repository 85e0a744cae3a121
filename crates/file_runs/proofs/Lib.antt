pub mod RunLemmas
pub mod FileLemmas
pub mod Parts
pub mod Places
mod Worked
