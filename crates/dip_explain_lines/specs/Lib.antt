pub mod Lines
pub mod Sayings
pub mod Retreats
pub mod Winter
