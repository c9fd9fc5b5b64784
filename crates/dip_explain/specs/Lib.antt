pub mod Movement
pub mod Phases
