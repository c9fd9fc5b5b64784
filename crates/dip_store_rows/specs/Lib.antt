pub mod Tables
pub mod Apart
pub mod Counted
pub mod Made
pub mod Texts
pub use Rattle.sqlite_keyed.specs.Lists
pub use Rattle.sqlite_keyed.specs.Keyed
