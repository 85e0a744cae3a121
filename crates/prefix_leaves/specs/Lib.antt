pub mod Renaming
pub mod Prefixes
pub mod Laws
