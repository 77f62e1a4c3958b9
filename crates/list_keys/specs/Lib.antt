pub mod Buckets
pub mod Keys
pub mod Passes
