pub mod Fitting
pub mod Looked
pub mod Running
