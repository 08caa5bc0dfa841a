-- The turns of the loops of the check.
pub mod Turns
