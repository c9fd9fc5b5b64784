pub mod Tokens
pub mod Scan
pub mod Forms
pub mod Reading
pub mod Texts
