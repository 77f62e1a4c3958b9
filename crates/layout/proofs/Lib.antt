pub mod Words
pub mod Stride
pub mod Each
pub mod Forms
