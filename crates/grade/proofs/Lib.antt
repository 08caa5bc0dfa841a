-- A list of vectors, and what a grading that passes its tests knows.
pub mod Graded
pub mod Tests
pub mod Columns
