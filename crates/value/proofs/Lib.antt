-- The laws that proofs of functions and of other laws cite, each stated once.

pub mod Walk
pub mod Settings
pub mod Values
pub mod Direct
pub mod Run
pub mod Walking
pub mod Lengths
