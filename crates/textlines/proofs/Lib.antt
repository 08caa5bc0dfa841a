-- The laws that the proofs of functions cite, each stated once.
pub mod Puts
mod Digits
mod Lines
