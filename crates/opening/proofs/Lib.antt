-- What an opened call knows of its card and its vectors.
pub mod Laws
