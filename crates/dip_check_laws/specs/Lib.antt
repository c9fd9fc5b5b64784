pub mod Published
pub mod Laws
