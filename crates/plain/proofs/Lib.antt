-- What the calls give for lists of faults, and what a call that is done has written.
pub mod Lists
pub mod Done
