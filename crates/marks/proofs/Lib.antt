pub mod Marks
pub mod Members
pub mod Chain
