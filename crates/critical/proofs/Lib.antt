-- What the proofs of the stopped walk cite: its end, and its steps.
pub mod WalkEnd
pub mod Steps
