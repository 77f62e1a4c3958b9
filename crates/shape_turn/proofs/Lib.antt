pub mod Pasted
pub mod Written
