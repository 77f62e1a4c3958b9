pub mod Targets
pub mod Grounded
pub mod Between
pub mod Rounds
