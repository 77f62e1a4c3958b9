pub mod Clash
pub mod First
