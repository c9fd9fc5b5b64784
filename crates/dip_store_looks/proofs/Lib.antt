pub mod BoardRows
pub mod Onward
pub mod OwnLemmas
pub mod PageLemmas
pub mod PublicLemmas
pub mod RowLemmas
pub mod WholeLemmas
