-- What the proofs of the change walk cite.

pub mod Laws
