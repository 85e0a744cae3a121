pub mod AroundLemmas
pub mod NearLemmas
pub mod WindowLemmas
