-- One vector and a block of them taken in.
pub mod Updated
pub mod Started
pub mod InGrade
