pub mod Spelling
pub mod Spelled
pub mod Telling
