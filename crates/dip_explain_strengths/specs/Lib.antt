pub mod Matters
pub mod Strengths
pub mod StrengthTexts
