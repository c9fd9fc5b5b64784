pub mod Lacking
pub mod Stored
pub mod InMemory
