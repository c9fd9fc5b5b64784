pub mod Asked
pub mod Readable
pub mod Shown
