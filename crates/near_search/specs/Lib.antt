pub mod Contents
pub mod Costs
pub mod inner
