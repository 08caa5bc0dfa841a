pub mod Check
pub mod Reads
pub mod Calls
