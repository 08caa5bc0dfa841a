-- The laws, beside the proofs of functions.
mod Whole
