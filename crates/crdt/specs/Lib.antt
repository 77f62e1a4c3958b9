pub mod Labels
pub mod Flags
pub mod Cells
