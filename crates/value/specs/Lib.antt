pub mod Run
pub mod Settings
pub mod Values
pub mod Direct
pub mod Buffers
