-- The first line of a paper tells of what kind it is.
use Rattle.std.proofs.Common.{◌≡◌, ◌+◌, ℕ, false, List, [], ◌∷◌, ◌++◌, codes, nat_le, Option, unwrap_or, refl, sym, ap, ◌∙◌, append_assoc}
use Rattle.std.specs.Fmt.{decimal}
use Rattle.std.specs.Str.{bytes_eq}
use Rattle.std.proofs.lemmas.Bool.{false≢true}
use Rattle.std.proofs.lemmas.List.{append_cancel_left}
use Rattle.std.proofs.lemmas.Slice.Eq.{bytes_eq-Decides}
use Rattle.dip_letters.specs.Lines.{IsLine}
use Rattle.dip_letters.proofs.LineLemmas.{line_again}
use Rattle.dip_map.specs.Charts.{Chart}
use Rattle.dip_map.specs.declared.boards.Phase.{Phase}
use Rattle.dip_map.specs.declared.boards.Season.{Season}
use Rattle.dip_map.specs.declared.boards.Season.TheVariants.{SpringMoves, SpringRetreats, FallMoves, FallRetreats, Winter}
use Rattle.dip_desk_state.specs.Records.{Public}
use Rattle.dip_reports.specs.Texts.{marked_lines, notice_lines, paper_end, paper_title, phase_text}
use Rattle.dip_check_papers.specs.Games.{IsDraw, IsNotice, IsPhase}
use Rattle.dip_check_papers.specs.Printed.{first_line_of, title_words}
use Rattle.dip_check_papers.proofs.Judging.{phase_first}
use Rattle.dip_check_papers.proofs.LineLemmas.{AreAll, lacks_by}
use Rattle.dip_check_papers.proofs.OrderTexts.{low_no_lf}
use Rattle.dip_check_papers.proofs.PaperParts.{low_both, low_number}

-- the first line of a paper of a kind that is no phase
abbrev pub kind_words : ℕ → List ℕ → List ℕ
kind_words number kind = codes "PAPER " ++ decimal number ++ codes " " ++ kind

kind_line : (number : ℕ) (kind : List ℕ) → AreAll (nat_le 32) kind → IsLine (kind_words number kind)
kind_line number kind low =
    lacks_by (nat_le 32) 10 low_no_lf (kind_words number kind)
    (low_both (codes "PAPER " ++ decimal number ++ codes " ") kind (low_both (codes "PAPER " ++ decimal number) (codes " ") (low_both (codes "PAPER ") (decimal number) refl (low_number number)) refl) low)

titled : (number : ℕ) (kind rest : List ℕ) → AreAll (nat_le 32) kind → (first_line_of (paper_title number kind ++ rest)).0 ≡ kind_words number kind
titled number kind rest low =
    ap (λ (t : List ℕ). (first_line_of t).0) (append_assoc (kind_words number kind) (codes "\n") rest)
    ∙ ap (λ (o : Option (List ℕ × List ℕ)). (unwrap_or o (kind_words number kind ++ 10 ∷ rest, [])).0) (line_again (kind_words number kind) rest (kind_line number kind low))

pub notice_first : (m : Chart) (p : Public) (text : List ℕ) (new : Public) → IsNotice m p text new → (first_line_of text).0 ≡ kind_words (p.papers + 1) (codes "notice")
notice_first m p text new h =
    ap (λ (t : List ℕ). (first_line_of t).0) (h.told ∙ append_assoc (paper_title new.papers (codes "notice")) (marked_lines (notice_lines h.notice)) (paper_end m new))
    ∙ titled new.papers (codes "notice") (marked_lines (notice_lines h.notice) ++ paper_end m new) refl ∙ ap (λ (q : Public). kind_words q.papers (codes "notice")) h.after

pub draw_first : (m : Chart) (p : Public) (text : List ℕ) (new : Public) → IsDraw m p text new → (first_line_of text).0 ≡ kind_words (p.papers + 1) (codes "draw")
draw_first m p text new h =
    ap (λ (t : List ℕ). (first_line_of t).0) h.told ∙ titled new.papers (codes "draw") (paper_end m new) refl ∙ ap (λ (q : Public). kind_words q.papers (codes "draw")) h.after

-- ---- no text has two titles

pub other_text : (a b : List ℕ) → bytes_eq a b ≡ false → a ≡ b → ⊥
other_text a b other same = false≢true (sym other ∙ (bytes_eq-Decides a b).1 same)

pub one_kind : (number : ℕ) (a b : List ℕ) → kind_words number a ≡ kind_words number b → a ≡ b
one_kind number a b same = append_cancel_left (codes "PAPER " ++ decimal number ++ codes " ") a b same

no_notice : (phase : Phase) → phase_text phase ≡ codes "notice" → ⊥
unfolding phase_text
no_notice phase = by phase.season
  where
    by : (season : Season) → phase_text (record { year = phase.year; season = season }) ≡ codes "notice" → ⊥
    by SpringMoves same = other_text (codes "S" ++ decimal phase.year ++ codes "M") (codes "notice") refl same
    by SpringRetreats same = other_text (codes "S" ++ decimal phase.year ++ codes "R") (codes "notice") refl same
    by FallMoves same = other_text (codes "F" ++ decimal phase.year ++ codes "M") (codes "notice") refl same
    by FallRetreats same = other_text (codes "F" ++ decimal phase.year ++ codes "R") (codes "notice") refl same
    by Winter same = other_text (codes "W" ++ decimal phase.year ++ codes "A") (codes "notice") refl same

no_draw : (phase : Phase) → phase_text phase ≡ codes "draw" → ⊥
unfolding phase_text
no_draw phase = by phase.season
  where
    by : (season : Season) → phase_text (record { year = phase.year; season = season }) ≡ codes "draw" → ⊥
    by SpringMoves same = other_text (codes "S" ++ decimal phase.year ++ codes "M") (codes "draw") refl same
    by SpringRetreats same = other_text (codes "S" ++ decimal phase.year ++ codes "R") (codes "draw") refl same
    by FallMoves same = other_text (codes "F" ++ decimal phase.year ++ codes "M") (codes "draw") refl same
    by FallRetreats same = other_text (codes "F" ++ decimal phase.year ++ codes "R") (codes "draw") refl same
    by Winter same = other_text (codes "W" ++ decimal phase.year ++ codes "A") (codes "draw") refl same

-- a text with the phase's title is no notice's paper and no draw's
pub phase_no_notice : (m : Chart) (p : Public) (text : List ℕ) (new : Public) → (first_line_of text).0 ≡ title_words (p.papers + 1) p.board.phase → IsNotice m p text new → ⊥
phase_no_notice m p text new title h = no_notice p.board.phase (one_kind (p.papers + 1) (phase_text p.board.phase) (codes "notice") (sym title ∙ notice_first m p text new h))

pub phase_no_draw : (m : Chart) (p : Public) (text : List ℕ) (new : Public) → (first_line_of text).0 ≡ title_words (p.papers + 1) p.board.phase → IsDraw m p text new → ⊥
phase_no_draw m p text new title h = no_draw p.board.phase (one_kind (p.papers + 1) (phase_text p.board.phase) (codes "draw") (sym title ∙ draw_first m p text new h))

-- a text with a notice's title is no draw's paper
pub notice_no_draw : (m : Chart) (p : Public) (text : List ℕ) (new : Public) → (first_line_of text).0 ≡ kind_words (p.papers + 1) (codes "notice") → IsDraw m p text new → ⊥
notice_no_draw m p text new title h = other_text (codes "notice") (codes "draw") refl (one_kind (p.papers + 1) (codes "notice") (codes "draw") (sym title ∙ draw_first m p text new h))

pub phase_or_notice : (m : Chart) (p : Public) (text : List ℕ) (one other : Public) → IsPhase m p text one → IsNotice m p text other → ⊥
phase_or_notice m p text one other phase notice = phase_no_notice m p text other (phase_first m p text one phase) notice

pub phase_or_draw : (m : Chart) (p : Public) (text : List ℕ) (one other : Public) → IsPhase m p text one → IsDraw m p text other → ⊥
phase_or_draw m p text one other phase draw = phase_no_draw m p text other (phase_first m p text one phase) draw

pub notice_or_draw : (m : Chart) (p : Public) (text : List ℕ) (one other : Public) → IsNotice m p text one → IsDraw m p text other → ⊥
notice_or_draw m p text one other notice draw = notice_no_draw m p text other (notice_first m p text one notice) draw
