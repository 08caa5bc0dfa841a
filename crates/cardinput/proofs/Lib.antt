-- The laws, beside the proofs of functions.
pub mod Fronts
mod Known
