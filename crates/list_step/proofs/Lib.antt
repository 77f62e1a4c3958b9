pub mod Marked
pub mod Cursor
pub mod Steps
