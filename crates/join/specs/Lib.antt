pub mod Calls
pub mod Done
