pub mod BoardLaws
pub mod Searching
