pub mod Synql
pub mod Database
pub mod Examples
