pub mod Cells
pub mod Joined
pub mod Fields
pub mod Chains
pub mod Steps
pub mod Within
