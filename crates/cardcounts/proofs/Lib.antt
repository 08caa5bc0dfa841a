-- The five numbers of a check in a buffer.
mod Counts
