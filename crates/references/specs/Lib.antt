pub mod Resolved
pub mod Order
pub mod Search
