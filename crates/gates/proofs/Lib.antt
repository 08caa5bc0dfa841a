-- How much of a gate list tells a call all and where its refusals stand, and what a call that is done has made.
pub mod Clip
pub mod Done
