pub mod Keys
pub mod Held
pub mod Situations
pub mod Matching
pub mod Meaning
pub mod Placed
pub mod Rows
pub mod Columns
