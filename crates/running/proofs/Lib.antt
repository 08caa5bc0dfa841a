-- The marks and tallies of faults, and one vector taken in.
pub mod Fold
