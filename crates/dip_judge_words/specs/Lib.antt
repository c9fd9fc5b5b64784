pub mod CommandLine
pub mod ArgsGiven
pub mod UsageFaults
pub mod Reading
