-- Where a text of lines has its first line `END`: lemmas of letters, passed on to those who cut papers.
pub use Rattle.dip_letters.proofs.CutLemmas.{Reaches, cut_size, end_found, end_missing, line_shorter, reaches_more}
pub use Rattle.dip_letters.proofs.LineLemmas.{cut_unique, line_found, line_missing}
pub use Rattle.dip_letters.proofs.WordLemmas.{ArePrintable, text_ascii}
