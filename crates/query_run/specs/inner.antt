-- For proofs alone. No clause of `serve` or `run` speaks of these.
pub mod Streams
