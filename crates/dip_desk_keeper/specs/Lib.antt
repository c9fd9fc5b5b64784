pub mod Keeping
pub mod Fitting
pub mod Papers
