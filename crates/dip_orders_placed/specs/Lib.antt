pub mod Retreats
pub mod Allowances
pub mod Standing
