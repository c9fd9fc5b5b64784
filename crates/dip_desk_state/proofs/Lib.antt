pub mod KeyedLemmas
pub mod KeptKeys
