pub mod Room
pub mod Places
pub mod Order
pub mod Search
pub mod Parts
pub mod Refs
