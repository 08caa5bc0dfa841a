-- What the layers above use of vectors and of lists, where refusals stand, and the turns of the check's loop.
pub mod Laws
pub mod Parts
pub mod Lists
pub mod Turns
pub mod Positions
pub mod Clip
pub mod Made
