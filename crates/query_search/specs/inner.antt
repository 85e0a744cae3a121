pub mod Searches
pub mod Queries
