-- The tests of the wires with what is left over, how much of what is lent tells a call all and where its refusals stand, and what a call that is done has
-- made.
pub mod Laws
pub mod Clip
pub mod Done
