-- The laws that proofs of functions and of other laws cite, each stated once.
pub mod Tests
pub mod Counting
pub mod Net
pub mod Tables
pub mod Each
pub mod Front
pub mod Chain
pub mod Some
pub mod Order
