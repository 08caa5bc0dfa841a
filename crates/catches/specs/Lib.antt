pub mod Caught
pub mod ActivePath
pub mod Detections
pub mod Words
pub mod Good
