pub mod Primitives
pub mod State
pub mod Mutators
pub mod Compensated
pub mod Differences
pub mod Steps
