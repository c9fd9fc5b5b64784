pub mod ApartLemmas
pub mod RefugeLemmas
pub mod CalendarLemmas
mod AscendingLemmas
pub mod OneWayLemmas
pub mod CentreLaws
pub mod KeptLemmas
pub mod WinnerLemmas
pub mod SingleLemmas
pub mod PlaceLemmas
pub mod MapLemmas
pub mod IntentLemmas
pub mod CountLemmas
pub mod DisorderCounts
pub mod WinterLemmas
