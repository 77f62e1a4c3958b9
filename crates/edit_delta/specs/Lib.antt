pub mod Picked
pub mod Drafting
