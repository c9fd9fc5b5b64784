-- How far a text is like openings.
use Rattle.std.proofs.Common.{◌≡◌, ◌≤◌, ◌+◌, inl, inr, ℕ, Bool, true, false, cond, List, [], ◌∷◌, ◌++◌, codes, refl, sym, ap, ap₂, subst, ◌∙◌, append_assoc, arith}
use Rattle.std.specs.Str.{bytes_eq}
use Rattle.std.proofs.lemmas.Bool.{cases_lt}
use Rattle.std.proofs.lemmas.Slice.Eq.{bytes_eq-Decides}
use Rattle.dip_map.specs.Charts.{Chart}
use Rattle.dip_desk_games.specs.Opening.{opening_public}
use Rattle.dip_desk_state.specs.Records.{Public}
use Rattle.dip_reports.specs.Texts.{board_lines, game_line, opening_paper, paper_end}
use Rattle.dip_desk_state.specs.Texts.{status_text}
use Rattle.dip_check_papers.specs.Differing.{alike, first_other}
use Rattle.dip_check_papers.specs.Games.{IsOpening}
use Rattle.dip_check_papers.specs.Parts.{game_line_in, lines_in, words_in}
use Rattle.dip_check_papers.proofs.GameLines.{game_lacks, line_lacks, line_text}
use Rattle.dip_check_papers.proofs.OpeningLemmas.{AreSaid, opening_said}
use Rattle.dip_check_papers.proofs.WordLemmas.{lacks, part_again}

few : (t : Bool) (n : ℕ) → 1 ≤ cond t n 0 → t ≡ true
few true n h = refl
few false n h = absurd (omega (arith, h))

-- a text with a line alike has it
front_alike : (ls : List (List ℕ)) (a : List ℕ) (others : List (List ℕ)) → 1 ≤ alike ls (a ∷ others) → (more : List (List ℕ)) × (ls ≡ a ∷ more) × (alike ls (a ∷ others) ≡ alike more others + 1)
front_alike [] a others h = absurd (omega (arith, h))
front_alike (l ∷ ls) a others h =
    let met : bytes_eq l a ≡ true = few (bytes_eq l a) (alike ls others + 1) h in
    (ls, ap (λ (x : List ℕ). x ∷ ls) ((bytes_eq-Decides l a).0 met), ap (λ (t : Bool). cond t (alike ls others + 1) 0) met)

own_line : (a : List ℕ) → bytes_eq a a ≡ true
own_line a = (bytes_eq-Decides a a).1 refl

-- the lines of an opening: its title, its game line, and others
opening_lines : (m : Chart) (p : Public) → lines_in (opening_paper m p) ≡ codes "PAPER 1 opening" ∷ lines_in (paper_end m p)
opening_lines m p = part_again 10 (codes "PAPER 1 opening") (paper_end m p) refl

end_lines : (m : Chart) (p : Public) → lacks 10 (line_text m p) ≡ true → lines_in (paper_end m p) ≡ line_text m p ∷ lines_in (board_lines m p.board ++ codes "END\n")
unfolding game_line
end_lines m p free =
    ap lines_in (append_assoc (line_text m p ++ codes "\n") (board_lines m p.board) (codes "END\n") ∙ append_assoc (line_text m p) (codes "\n") (board_lines m p.board ++ codes "END\n"))
    ∙ part_again 10 (line_text m p) (board_lines m p.board ++ codes "END\n") free

opening_free : (m : Chart) (text : List ℕ) (new : Public) (h : IsOpening m text new) → lacks 10 (line_text m (opening_public m h.game h.due h.period h.grey h.intent)) ≡ true
unfolding status_text
opening_free m text new h =
    line_lacks m (opening_public m h.game h.due h.period h.grey h.intent) (game_lacks 10 h.game refl h.named) (omega arith) refl
    (record { due = omega (arith, h.timely); period = omega (arith, h.most); papers = omega arith })

-- the first two lines of an opening, and its others
others : Chart → Public → List (List ℕ)
others m p = lines_in (board_lines m p.board ++ codes "END\n")

first_two : (m : Chart) (p : Public) → lacks 10 (line_text m p) ≡ true → lines_in (opening_paper m p) ≡ codes "PAPER 1 opening" ∷ line_text m p ∷ others m p
unfolding others
first_two m p free = opening_lines m p ∙ ap (λ (ls : List (List ℕ)). codes "PAPER 1 opening" ∷ ls) (end_lines m p free)

-- a text with two lines alike has them
two_alike : (ls ks : List (List ℕ)) (a c : List ℕ) (rest : List (List ℕ)) → ks ≡ a ∷ c ∷ rest → 2 ≤ alike ls ks → (more : List (List ℕ)) × (ls ≡ a ∷ c ∷ more)
two_alike ls ks a c rest is far =
    let two : 2 ≤ alike ls (a ∷ c ∷ rest) = subst (λ (xs : List (List ℕ)). 2 ≤ alike ls xs) is far in
    let first = front_alike ls a (c ∷ rest) (omega (arith, two)) in
    let second = front_alike first.0 c rest (omega (arith, two, first.2)) in
    (second.0, first.1 ∙ ap (λ (xs : List (List ℕ)). a ∷ xs) second.1)

-- a text that is like an opening up to its game line says its terms
pub said_so_far : (m : Chart) (text paper : List ℕ) (new : Public) (h : IsOpening m paper new) → 2 ≤ alike (lines_in text) (lines_in paper)
    → AreSaid (words_in (game_line_in (lines_in text))) h.game h.due h.period h.grey h.intent
said_so_far m text paper new h far =
    let p : Public = opening_public m h.game h.due h.period h.grey h.intent in
    let lines : lines_in (opening_paper m p) ≡ codes "PAPER 1 opening" ∷ line_text m p ∷ others m p = first_two m p (opening_free m paper new h) in
    let same = two_alike (lines_in text) (lines_in paper) (codes "PAPER 1 opening") (line_text m p) (others m p) (ap lines_in (h.told ∙ ap (opening_paper m) h.after) ∙ lines) far in
    let read : game_line_in (lines_in text) ≡ line_text m p = ap game_line_in same.1 in
    let own : game_line_in (lines_in (opening_paper m p)) ≡ line_text m p = ap game_line_in lines in
    subst (λ (l : List ℕ). AreSaid (words_in l) h.game h.due h.period h.grey h.intent) (own ∙ sym read) (opening_said m h.game h.due h.period h.grey h.intent h.named h.timely h.most)

-- and one with the first line of an opening alike has it alike with all
pub title_alike : (m : Chart) (text paper : List ℕ) (new q : Public) → IsOpening m paper new → 1 ≤ alike (lines_in text) (lines_in paper) → 1 ≤ alike (lines_in text) (lines_in (opening_paper m q))
title_alike m text paper new q h one =
    let whole : lines_in paper ≡ codes "PAPER 1 opening" ∷ lines_in (paper_end m new) = ap lines_in h.told ∙ opening_lines m new in
    let first = front_alike (lines_in text) (codes "PAPER 1 opening") (lines_in (paper_end m new)) (subst (λ (ls : List (List ℕ)). 1 ≤ alike (lines_in text) ls) whole one) in
    let there : alike (lines_in text) (lines_in (opening_paper m q)) ≡ alike first.0 (lines_in (paper_end m q)) + 1 =
    ap₂ alike first.1 (opening_lines m q) ∙ ap (λ (t : Bool). cond t (alike first.0 (lines_in (paper_end m q)) + 1) 0) (own_line (codes "PAPER 1 opening")) in
    omega (arith, there)

-- so no opening is like a text further than that of the terms which the text says
pub openings_furthest : (m : Chart) (text paper : List ℕ) (new after : Public) (h : IsOpening m paper new)
    → (AreSaid (words_in (game_line_in (lines_in text))) h.game h.due h.period h.grey h.intent → new ≡ after) → first_other text paper ≤ first_other text (opening_paper m after)
openings_furthest m text paper new after h says = elim (cases_lt 1 (alike (lines_in text) (lines_in paper))) [
  | inl far ↦
      let same : paper ≡ opening_paper m after = h.told ∙ ap (opening_paper m) (says (said_so_far m text paper new h (omega (arith, far)))) in
      let equal : first_other text paper ≡ first_other text (opening_paper m after) = ap (first_other text) same in
      omega (arith, equal)
  | inr near ↦ elim (cases_lt 0 (alike (lines_in text) (lines_in paper))) [
    | inl one ↦ let title = title_alike m text paper new after h (omega (arith, one)) in omega (arith, title, near)
    | inr none ↦ omega (arith, none)
  ]
]
