pub mod Reading
pub mod Runs
pub mod RunFaults
pub mod Names
pub mod Fresh
pub mod MapFiles
