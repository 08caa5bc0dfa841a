-- The laws, each stated once, and worked examples.
pub mod Check
pub mod Accepted
pub mod Calls
pub mod Examples
