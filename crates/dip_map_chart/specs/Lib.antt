pub mod Walk
pub mod Levels
pub mod Charts
pub mod Checks
pub mod Walks
pub mod Distances
