pub mod Faults
pub mod Forms
pub mod Kinds
pub mod Options
pub mod Results
