use Rattle.std.proofs.Common.{◌≡◌, sym, ◌∙◌}
use Rattle.std.proofs.lemmas.Slice.Eq.{bytes_eq-Decides}
use Rattle.dip_check.proofs.checking.has_phase_title.Goals as goal

pub returns-clause-titled : goal.returns-clause-titled
returns-clause-titled c = λ title.
    let same : c.first_line.result.now ≡ c.as_str.result.now = c.first_line.ensures ∙ title ∙ sym (c.as_str.ensures.value ∙ c.in_ok-wanted.ensures) in
    c.eq.ensures ∙ (bytes_eq-Decides c.first_line.result.now c.as_str.result.now).1 same
