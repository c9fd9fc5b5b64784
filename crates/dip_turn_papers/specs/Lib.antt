pub mod Papers
pub mod Laws
