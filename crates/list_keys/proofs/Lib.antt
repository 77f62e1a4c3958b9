pub mod Digests
pub mod Listed
pub mod Bucketed
pub mod Beaten
pub mod Passing
