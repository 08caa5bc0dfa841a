-- The laws that proofs of functions and of other laws cite, each stated once, and worked examples.
pub mod Meets
pub mod Rewalk
pub mod Changes
pub mod Faults
pub mod ByRules
pub mod Stopped
pub mod Readers
pub mod Leads
pub mod Examples
pub mod Lengths
