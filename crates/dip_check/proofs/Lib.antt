pub mod Coming
pub mod Chains
