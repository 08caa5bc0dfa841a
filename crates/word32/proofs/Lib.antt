-- The laws that proofs of functions and of other laws cite, each stated once.
pub mod Fields
pub mod Made
pub mod Bytes
pub mod Parts
