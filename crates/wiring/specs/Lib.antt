pub mod Joined
pub mod Calls
pub mod Parts
pub mod Both
