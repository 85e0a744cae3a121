pub mod Contents
pub mod Changes
pub mod StandsFor
pub mod LookUps
pub mod Laws
pub mod Terms
