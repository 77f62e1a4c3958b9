pub mod Told
pub mod Refused
