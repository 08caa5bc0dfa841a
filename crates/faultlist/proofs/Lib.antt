-- The loops over a list of faults, what a list that passes its tests has, and that the faults of such a list hold together, in any order.
pub mod Tested
pub mod Together
pub mod Held
pub mod Order
