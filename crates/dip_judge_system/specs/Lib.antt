pub mod Failures
pub mod FileFaults
pub mod Version
