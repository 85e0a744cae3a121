pub mod Puts
pub mod Entries
pub mod Holders
pub mod Containments
