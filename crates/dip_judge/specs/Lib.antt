pub mod Checking
pub mod Stores
pub mod Files
pub mod Lasting
pub mod Commands
pub mod Asked
pub mod OverFiles
