-- For proofs alone: what the functions that answer lines say to each other. No clause of `serve` or `run` in `query_run` speaks of these.
pub mod Asks
pub mod Once
pub mod Service
pub mod Tasks
pub mod Telling
