pub mod Fronts
pub mod Agreement
pub mod Standing
pub mod NewPlaces
pub mod Reading
pub mod MergeCost
