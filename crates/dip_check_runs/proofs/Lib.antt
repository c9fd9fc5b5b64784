pub mod InputLemmas
pub mod TitleLemmas
pub mod RunLemmas
pub mod ExactLemmas
