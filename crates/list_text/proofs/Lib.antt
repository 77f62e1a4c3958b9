pub mod Laying
pub mod Digits
pub mod Fields
pub mod Turns
