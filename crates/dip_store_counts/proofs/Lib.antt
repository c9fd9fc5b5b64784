pub mod Counting
pub mod Failing
pub mod Found
pub mod Knowing
pub mod Listed
pub mod Peeking
pub mod Placed
