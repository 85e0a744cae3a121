pub mod Changes
pub mod Edits
pub mod Faults
pub mod Laws
pub mod Watches
pub mod inner
