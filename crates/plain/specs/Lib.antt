pub mod Calls
pub mod Single
pub mod Done
