pub mod Keepings
pub mod Ending
pub mod Numbers
pub mod Parts
pub mod Walking
