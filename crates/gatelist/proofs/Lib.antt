-- The laws of gate lists, each stated once.
pub mod Examples
pub mod Lines
pub mod Sound
pub mod Walk
pub mod Written
pub mod Leads
pub mod Accepted
pub mod Readers
pub mod Values
pub mod Same
pub mod Positions
