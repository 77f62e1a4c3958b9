pub mod Links
pub mod Count
