pub mod CommandLineLemmas
pub mod NumberLemmas
