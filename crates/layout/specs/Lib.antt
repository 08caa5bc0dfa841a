pub mod Layout
pub mod Shape
pub mod Tables
