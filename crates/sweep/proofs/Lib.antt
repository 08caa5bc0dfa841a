-- What the proofs of the sweep cite.

pub mod Laws
