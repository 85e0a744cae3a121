pub mod Definitions
pub mod Faults
pub mod Requests
pub mod Runs
pub mod Searches
pub mod Visits
pub mod inner
