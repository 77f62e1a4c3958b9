pub mod Text
pub mod Placed
pub mod Written
