pub mod Words
pub mod Work
pub mod Lanes
pub mod Sides
pub mod Text
pub mod Shares
pub mod Statuses
