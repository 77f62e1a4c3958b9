pub mod Tests
pub mod Lattice
pub mod Order
