pub mod Reach
pub mod Found
pub mod KeyLaws
pub mod EntryLaws
pub mod MapLaws
pub mod GraphLaws
pub mod WalkLaws
pub mod DistanceLaws
