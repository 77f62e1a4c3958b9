pub mod Program
pub mod Example
