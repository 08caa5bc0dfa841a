-- Bits of words, and sets of numbers in them.
pub mod Bits
