pub mod Lines
pub mod Form
pub mod Functions
pub mod Gates
pub mod Drawn
pub mod AcceptsGates
pub mod Same
