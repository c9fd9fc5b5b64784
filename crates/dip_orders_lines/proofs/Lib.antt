pub mod TokenLaws
pub mod SpellingLaws
pub mod PartLaws
pub mod FormLaws
pub mod ReadingLaws
pub mod TextLaws
