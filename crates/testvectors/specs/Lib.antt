pub mod Vectors
pub mod Parts
pub mod Lists
pub mod Made
