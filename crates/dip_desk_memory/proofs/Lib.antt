pub mod GamesLemmas
pub mod PartLemmas
pub mod Placing
