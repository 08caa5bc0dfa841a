-- The laws that proofs of functions and of other laws cite, each stated once.
pub mod Detects
pub mod Relation
pub mod Grading
pub mod Direct
