use Rattle.std.proofs.Common.{◌≡◌, inl, inr, arith, ℕ, List, [], Bor, map, slice_get, unwrap_or, sym, ap, ◌∙◌}
use Rattle.std.proofs.lemmas.Bool.{cases_lt, false≢true}
use Rattle.dip_letters.specs.Words.{is_game}
use Rattle.dip_check_papers.specs.Parts.{game_line_in, lines_in, words_in}
use Rattle.dip_desk_state.specs.Records.{Public}
use Rattle.dip_check_papers.specs.Differing.{alike}
use Rattle.dip_check_papers.specs.Games.{IsOpening}
use Rattle.dip_check_papers.proofs.OpeningLemmas.{AreSaid, opening_read}
use Rattle.dip_check_papers.proofs.OpeningLines.{said_so_far}
use Rattle.dip_check_papers.proofs.openings.check_opening.Goals as goal

pub returns-then-not-is_game : goal.returns-then-not-is_game
returns-then-not-is_game c =
    let m = c.args.map.now in
    let text : List ℕ = c.args.text.now in
    let words : map {A = Bor (List ℕ)} {B = List ℕ} (λ w. w.now) c.as_slice.result.now ≡ words_in (game_line_in (lines_in text)) =
    ap (map {A = Bor (List ℕ)} {B = List ℕ} (λ w. w.now)) c.as_slice.ensures.value ∙ c.in_ok-words.ensures in
    let none : (paper : List ℕ) (new : Public) (h : IsOpening m paper new) → AreSaid (words_in (game_line_in (lines_in text))) h.game h.due h.period h.grey h.intent → ⊥ = λ paper new h said.
    let game : c.game_named-game.result.now ≡ h.game =
    c.game_named-game.ensures ∙ ap (λ ws. unwrap_or (slice_get ws 1) []) words ∙ said.named in
    false≢true (sym c.if-not-is_game.true ∙ c.is_game.ensures ∙ ap is_game game ∙ h.named) in
    let line = c.in_ok-fault_at.ensures in (
      (λ new h. none text new h (opening_read m text new h)),
      (λ paper new h. elim (cases_lt 1 (alike (lines_in text) (lines_in paper))) [
        | inl far ↦ absurd (none paper new h (said_so_far m text paper new h (omega (arith, far))))
        | inr near ↦ omega (arith, near, line)
      ]),
    )
