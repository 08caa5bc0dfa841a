-- What the proofs of the lengths cite.
pub mod Laws
