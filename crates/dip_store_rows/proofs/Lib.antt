pub use Rattle.sqlite_keyed.proofs.KeyedLemmas
pub use Rattle.sqlite_keyed.proofs.ListLemmas
pub use Rattle.sqlite_keyed.proofs.SliceLemmas
pub use Rattle.sqlite_keyed.proofs.SortLemmas
