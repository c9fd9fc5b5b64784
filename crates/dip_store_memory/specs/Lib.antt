pub mod Idle
pub mod Owns
pub mod Seen
