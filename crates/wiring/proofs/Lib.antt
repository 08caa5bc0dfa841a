-- That both cards are written in the joined card, that it is accepted, its values and faults by theirs, and the joined card on worked examples.
pub mod Calls
pub mod Stands
pub mod Numbers
pub mod Words
pub mod Written
pub mod BothWritten
pub mod Accepted
pub mod Sites
pub mod Part
pub mod Values
pub mod Faults
pub mod Whose
pub mod Caught
pub mod Both
pub mod Examples
