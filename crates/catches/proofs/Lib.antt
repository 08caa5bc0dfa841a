-- The active path, what is caught at each site, what the buffer tells, and the steps of the functions.

pub mod ActivePath
pub mod Caught
pub mod Detections
mod Words
mod Steps
