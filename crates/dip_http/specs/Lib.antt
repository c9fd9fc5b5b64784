pub mod Answering
pub mod Ends
pub mod Faults
pub mod Laws
pub mod Serving
pub mod Timing
