pub mod Named
pub mod Seeing
pub mod After
pub mod Owning
pub mod Idling
