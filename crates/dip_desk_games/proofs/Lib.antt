pub mod ListLemmas
pub mod OrderingLemmas
pub mod TickingLemmas
