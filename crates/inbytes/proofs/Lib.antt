-- What is read of bytes, a host's call by the end of its worker, and words written as bytes.
pub mod Laws
