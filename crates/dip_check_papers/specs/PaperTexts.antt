-- How the text of a paper is laid out: where it begins and where it ends.
use Rattle.std.specs.Prelude.{◌≡◌, ◌++◌, List, ℕ, true, codes}
use Rattle.std.specs.List.{AllByRecursion, list_all}
use Rattle.dip_names.specs.Forms.{is_printable}
use Rattle.dip_map.specs.Charts.{Chart}
use Rattle.dip_desk_state.specs.Records.{Public}
use Rattle.dip_check_papers.specs.Games.{AreOfGame}
-- the words of letters for lines and for the first line `END`, passed on to those who cut papers
pub use Rattle.dip_letters.specs.Lines.{AreInner, HasNoEnd, end_line, line_at, text_of}

-- a text that begins with `PAPER `: lines of printable characters, of which the last one, and no other, is `END`
pub record IsPaperText (text : List ℕ) : Type 0 where
  pub inner : List (List ℕ)
  pub lines : AreInner inner
  pub printed : AllByRecursion (λ l. list_all is_printable l ≡ true) inner
  pub is : text ≡ text_of inner ++ end_line
  pub rest : List ℕ
  pub begins : text ≡ codes "PAPER " ++ rest

-- each paper of a game has such a text
abbrev pub PapersAreLines : Chart → Type 0
PapersAreLines m = (papers : List (List ℕ)) (new : Public) → AreOfGame m papers new → AllByRecursion IsPaperText papers
