pub mod Detects
pub mod Relation
pub mod Grading
pub mod Direct
