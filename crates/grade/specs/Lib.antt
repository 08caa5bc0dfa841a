pub mod Calls
pub mod Graded
