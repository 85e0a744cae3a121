pub mod Histories
pub mod Accounts
pub mod Laws
pub mod Log
pub mod Tracked
pub mod Seats
