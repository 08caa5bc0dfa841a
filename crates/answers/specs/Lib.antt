pub mod Limits
pub mod Answers
pub mod Tests
pub mod Calls
pub mod Ends
pub mod Told
