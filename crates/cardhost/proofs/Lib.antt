-- Calls over the words that were read of two cards and their wires, and of a gate list.
pub mod Laws
