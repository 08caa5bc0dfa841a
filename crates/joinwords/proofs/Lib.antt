-- The loops that look at wires and write words, and the joined card as it is written.
pub mod Laws
pub mod Written
