-- What sound verdicts tell, where refusals stand, how a call opens and what it comes to, and how a worker ends.
pub mod Answers
pub mod Tests
pub mod Positions
pub mod Calls
pub mod Ends
