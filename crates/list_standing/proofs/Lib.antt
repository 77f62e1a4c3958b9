pub mod Fields
pub mod Members
pub mod Work
