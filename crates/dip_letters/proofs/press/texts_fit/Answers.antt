use Rattle.std.proofs.Common.{◌<◌, ap, arith, sym, ◌∙◌}
use Rattle.dip_letters.specs.Reading.{lines_fit, is_some, text_at}
use Rattle.dip_letters.proofs.BodyLemmas.{fit_fails, fit_more, fit_none, fit_zero}
use Rattle.dip_letters_words.proofs.LineLemmas.{rest_utf8}
use Rattle.dip_letters.proofs.press.texts_fit.Goals as goal

pub returns-then-left-eq0 : goal.returns-then-left-eq0
returns-then-left-eq0 c =
    sym (elim c.then-left-eq0.branch [
      | goal.then-left-eq0-via-then-left-eq0 w ↦ ap (λ k. lines_fit (λ l. is_some (text_at l)) k c.loop-line.at.now) w.if-left-eq0.true ∙ fit_zero (λ l. is_some (text_at l)) c.loop-line.at.now _ (sym c.in-Some.ensures)
      | goal.then-left-eq0-via-else-left-eq0+then-not-is_text_line w ↦ fit_fails (λ l. is_some (text_at l)) c.loop-line.left c.loop-line.at.now _ (sym c.in-Some.ensures) (sym w.if-not-is_text_line.ensures)
    ]) ∙ c.loop-line.invariant.0

pub loop-line-preserved : goal.loop-line-preserved
loop-line-preserved c =
    let some : 0 < c.loop-line.left = omega (arith, c.if-left-eq0.false) in (
      sym (fit_more (λ l. is_some (text_at l)) c.loop-line.left c.loop-line.at.now _ some (sym c.in-Some.ensures) (sym c.if-not-is_text_line.ensures)) ∙ c.loop-line.invariant.0,
      rest_utf8 c.loop-line.at.now c.in-Some.line.now c.in-Some.rest.now c.loop-line.invariant.1 c.in-Some.ensures,
    )

pub returns : goal.returns
returns c = c.is_empty.ensures ∙ sym (fit_none (λ l. is_some (text_at l)) c.loop-line.left c.loop-line.at.now (sym c.in_default.ensures)) ∙ c.loop-line.invariant.0
