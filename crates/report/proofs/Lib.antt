-- The laws that the proofs of functions cite, each stated once.
pub mod Cases
mod Examples
