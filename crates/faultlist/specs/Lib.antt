pub mod Faults
pub mod Together
