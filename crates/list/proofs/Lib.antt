pub mod Answers
pub mod Whole
pub mod Room
pub mod Read
pub mod Example
