pub mod Examples
pub mod Twelve
pub mod Shapes
pub mod Strikes
pub mod Standing
pub mod Spoiled
pub mod Keys
pub mod Capacities
