pub mod Counts
pub mod Failing
pub mod Knowing
pub mod Noting
