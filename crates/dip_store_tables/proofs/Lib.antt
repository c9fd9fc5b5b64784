pub mod Parts
mod BoardPieces
mod Owners
pub mod Standoffs
pub mod Listed
pub mod Returns
pub mod Pieces
pub mod Records
pub mod Replies
pub mod Lists
mod Games
mod Seats
mod Letters
pub mod Authors
mod Anew
mod Press
mod Openings
mod Effects
mod Changes
mod Coded
mod Counts
pub mod Found
mod Written
pub mod Pages
mod Deliveries
pub mod Cutting
pub mod KeptLines
pub mod StatusLemmas
pub mod Mapped
pub mod Spelled
pub mod MapTexts
pub mod VoteLemmas
mod Ballots
mod Told
mod Stays
pub mod Renewing
pub use Rattle.sqlite_keyed.proofs.KeyedLemmas
pub use Rattle.sqlite_keyed.proofs.ListLemmas
pub use Rattle.sqlite_keyed.proofs.SliceLemmas
pub use Rattle.sqlite_keyed.proofs.SortLemmas
