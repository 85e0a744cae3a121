-- Lemmas, and worked examples.
mod Beginnings
pub mod Ended
pub mod Pieces
pub mod RunLemmas
pub mod StreamLemmas
pub mod Told
pub mod WholeScripts
mod Worked
