pub mod Costs
pub mod Laws
pub mod Listings
pub mod inner
