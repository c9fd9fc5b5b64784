use Rattle.std.proofs.Common.{◌≡◌, ◌++◌, List, ℕ, Bor, IfOk, map, subst, sym, ap, ◌∙◌}
use Rattle.dip_desk_state.specs.Rows as rows
use Rattle.dip_check_papers.specs.Parts.{words_in}
use Rattle.dip_check_papers.specs.Shared.{draw_head}
use Rattle.dip_check_papers.proofs.PaperLemmas.{rest_same, rest_some}
use Rattle.dip_check_papers.proofs.drawing.words_told.Goals as goal

pub returns-in-Some : goal.returns-in-Some
returns-in-Some c = λ rest e.
    let head : c.as_str.result.now ≡ draw_head (rows.public c.args.before.now) = c.as_str.ensures.value ∙ c.in_ok-head.ensures in
    let same : c.in-Some.rest.now ≡ rest =
    rest_same c.as_str.result.now c.args.text.now c.in-Some.rest.now rest c.in-Some.ensures (e ∙ ap (λ h. h ++ rest) (sym head)) in
    subst (λ r. IfOk c.words_of.result (λ v. map {A = Bor (List ℕ)} {B = List ℕ} (λ w. w.now) v.items ≡ words_in r)) same c.words_of.ensures

pub returns : goal.returns
returns c = λ rest e.
    let head : c.as_str.result.now ≡ draw_head (rows.public c.args.before.now) = c.as_str.ensures.value ∙ c.in_ok-head.ensures in
    absurd (rest_some c.as_str.result.now c.args.text.now rest c.in-None.ensures (e ∙ ap (λ h. h ++ rest) (sym head)))
