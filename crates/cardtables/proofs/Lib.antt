-- The tables as they are filled, and what they tell: readers, the only reader, what counts in the grade.
pub mod Only
pub mod Readers
pub mod Stems
