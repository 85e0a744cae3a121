pub mod Faults
pub mod Promises
pub mod Runs
pub mod Statuses
pub mod Words
pub mod inner
