pub mod KeptLaws
pub mod FindLaws
pub mod RetreatLaws
pub mod AllowanceLaws
pub mod StandingLaws
