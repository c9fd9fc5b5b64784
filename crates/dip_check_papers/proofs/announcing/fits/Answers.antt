use Rattle.std.proofs.Common.{◌≡◌, ℕ, ◌≤◌, length, true, List, Bor, map, sym, subst, ◌∙◌}
use Rattle.std.proofs.lemmas.Bool.{false≢true}
use Rattle.std.proofs.lemmas.List.{length-map}
use Rattle.dip_letters.specs.Words.{is_text}
use Rattle.dip_check_papers.proofs.Listed.{all_mapped, mapped_all}
use Rattle.dip_check_papers.proofs.announcing.fits.Goals as goal

pub returns-then-lines-le-MOST_LINES-clause-fit : goal.returns-then-lines-le-MOST_LINES-clause-fit
returns-then-lines-le-MOST_LINES-clause-fit c = λ yes.
    let lines = c.args.lines.now in
    let count : length (map {A = Bor (List ℕ)} {B = List ℕ} (λ l. l.now) lines) ≡ length lines = length-map lines (λ l. l.now) in (
      subst (λ (n : ℕ). 1 ≤ n) (sym count) c.if-lines-le-MOST_LINES.true.0,
      subst (λ (n : ℕ). n ≤ 80) (sym count) c.if-lines-le-MOST_LINES.true.1,
      all_mapped (λ (l : Bor (List ℕ)). l.now) is_text lines (sym c.are_texts.ensures ∙ yes),
    )

pub returns-then-lines-le-MOST_LINES-clause-unfit : goal.returns-then-lines-le-MOST_LINES-clause-unfit
returns-then-lines-le-MOST_LINES-clause-unfit c = λ no fits.
    let all : c.are_texts.result ≡ true = c.are_texts.ensures ∙ mapped_all (λ (l : Bor (List ℕ)). l.now) is_text c.args.lines.now fits.2 in
    false≢true (sym no ∙ all)
