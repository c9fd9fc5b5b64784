pub mod TurnLemmas
pub mod StepLemmas
pub mod FreshLemmas
pub mod KeptLemmas
