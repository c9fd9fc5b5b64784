pub mod Drafts
pub mod Fields
pub mod Files
pub mod Tables
