pub mod Chain
pub mod Turns
pub mod Values
pub mod Marks
pub mod Refs
pub mod Upto
pub mod Places
