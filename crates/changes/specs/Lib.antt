pub mod Calls
pub mod Appended
