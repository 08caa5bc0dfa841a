-- A list of faults in bytes.
pub mod Laws
