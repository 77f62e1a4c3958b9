pub mod Meets
mod Sought
