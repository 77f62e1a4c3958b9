pub mod Stops
pub mod Answers
