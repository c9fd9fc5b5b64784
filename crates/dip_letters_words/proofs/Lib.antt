pub mod LineLemmas
pub mod WordLemmas
pub mod NameLemmas
pub mod NumberLemmas
