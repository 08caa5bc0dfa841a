pub mod Calls
pub mod Read
